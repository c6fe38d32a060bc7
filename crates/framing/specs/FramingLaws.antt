-- "Messages go to `out` one after another": the first of them has its own length, whatever follows.
-- Assumes nothing.
use Rattle.std.specs.Prelude.{◌≡◌, refl, Bool, false, List, ◌++◌, ◌≢◌, ℕ, ◌≤◌, ◌<◌, ◌^◌, ltb, eqb, length, take}
use Rattle.std.proofs.Common.{sym, ap, ◌∙◌, arith, length-append}
use Rattle.std.proofs.Math.Bool.{cond}
use Rattle.std.proofs.Math.Decide.{ℕ_discrete}
use Rattle.std.proofs.Math.Seq.{take-append_seam}
use borrow.Author.Tests.{ne_eqb, lt-ltb, le-ltb}
use Rattle.quorum.specs.Quorum.{most_seats, k}
use Rattle.protocol.specs.Layout.{submit_length, notice_length, full_length, evidence_count_at, evidence_entry_length, evidence_entry_at, evidence_length, old_evidence_count_at, old_evidence_entry_length, old_evidence_entry_at, old_evidence_length}
use Rattle.protocol.specs.Figures.{submit_figure, notice_figure, full_figure}
use Rattle.protocol.specs.Message.{ValuesOnce, ValuesEach, Message, Submit, Notice, Full, Evidence, Garbled, render, byte_at, read, WellFormed}
use Rattle.protocol.specs.MessageLaws.{read-render, pack-old, pack-new}
use Rattle.protocol.specs.Record.{wrong_size}
use Rattle.reading.specs.Reading.{frame_length}
use Rattle.reading.specs.ReadingLaws.{frame-length}
use Rattle.layout.specs.declared.Entries.{Entries}
use Rattle.wire.specs.Reading.{kind_of, command_place, pack_entries}
use Rattle.wire.specs.Answers.{command_of, command}
use Rattle.wire.specs.KindLaws.{kind-told}
use Rattle.wire.specs.declared.read.Kind.{Kind}
use Rattle.framing.specs.Framing.{no_message, is_garbled, first_frame, message_length}

-- ---- a message that was written

well_formed-said : (n : ℕ) (m : Message) → WellFormed n m → is_garbled m ≡ false
unfolding is_garbled
well_formed-said n (Submit round seat value signature) w = refl
well_formed-said n (Notice round seat value) w = refl
well_formed-said n (Full round sender value entries) w = refl
well_formed-said n (Evidence round form entries) w = refl
well_formed-said n Garbled w = absurd w

pub first_length : (n : ℕ) (m : Message) (rest : List ℕ) → wrong_size n ≡ false → WellFormed n m → message_length n (render m ++ rest) ≡ length (render m)
unfolding message_length first_frame
first_length n m rest s w =
    let l = frame-length n m rest w in
    let enough : ltb (length (render m ++ rest)) (length (render m)) ≡ false = le-ltb (length (render m ++ rest)) (length (render m)) (omega (arith, length-append (render m) rest)) in
    rw (s, l, enough, take-append_seam (render m) rest, read-render n m w, well_formed-said n m w)

-- ---- a kind of message

kind_garbled : (m : Message) → no_message (kind_of m) ≡ is_garbled m
unfolding kind_of is_garbled
kind_garbled (Submit round seat value signature) = refl
kind_garbled (Notice round seat value) = refl
kind_garbled (Full round sender value entries) = refl
kind_garbled (Evidence round (ValuesOnce values) entries) = refl
kind_garbled (Evidence round ValuesEach entries) = refl
kind_garbled Garbled = refl

garbled_told : (c : Kind) (m : Message) → command_of c ≡ command m → no_message c ≡ is_garbled m
garbled_told c m e = ap no_message (kind-told c m e) ∙ kind_garbled m

-- ---- the function, return by return

module _ (n : ℕ) (bytes : List ℕ) where
  pub length_none : n ≡ 0 → 0 ≡ message_length n bytes
  unfolding message_length wrong_size
  length_none h = rw h

  module _ (some : n ≡ 0 → ⊥) where
    pub length-many : most_seats < n → 0 ≡ message_length n bytes
    unfolding message_length wrong_size
    length-many h = rw (ne_eqb n 0 some, lt-ltb most_seats n h)

    module _ (few : n ≤ most_seats) (l : ℕ) (e : l ≡ frame_length n bytes) where
      pub length-short : length bytes < l → 0 ≡ message_length n bytes
      unfolding message_length wrong_size
      length-short h = rw (ne_eqb n 0 some, le-ltb most_seats n few, ← e, lt-ltb (length bytes) l h)

      module _ (long : l ≤ length bytes) (c : Kind) (told : command_of c ≡ command (read n (take l bytes))) (t : Bool) (q : t ≡ no_message c) where
        pub length-kind : cond t 0 l ≡ message_length n bytes
        unfolding message_length wrong_size first_frame
        length-kind = rw (ne_eqb n 0 some, le-ltb most_seats n few, ← e, le-ltb (length bytes) l long, ← garbled_told c (read n (take l bytes)) told, ← q)

-- ---- the length by command and count: r is the code's answer, which fits a u32

module _ (n : ℕ) (bytes : List ℕ) (c : ℕ) (e : c ≡ byte_at bytes 0) (r : ℕ) where
  abbrev Told : Type 0
  Told = (r ≡ frame_length n bytes) × (r < 2 ^ 32)

  pub frame-submit : c ≡ 0x01 → r ≡ submit_length → Told
  unfolding frame_length
  frame-submit h q = (rw (← e, h) q, omega (arith, submit_figure))

  module _ (no_submit : c ≡ 0x01 → ⊥) where
    pub frame-notice : c ≡ 0x02 → r ≡ notice_length → Told
    unfolding frame_length
    frame-notice h q = (rw (← e, h) q, omega (arith, notice_figure))

    module _ (no_notice : c ≡ 0x02 → ⊥) where
      pub frame-full : n ≤ most_seats → c ≡ 0x03 → r ≡ full_length n → Told
      unfolding frame_length k
      frame-full few h q = (rw (← e, h) q, omega (arith, full_figure n))

      pub frame-evidence : c ≢ 0x03 → (found : Entries) → found ≡ pack_entries bytes → command_place found found.count < 2 ^ 32 → r ≡ command_place found found.count → Told
      unfolding frame_length evidence_length evidence_entry_at evidence_entry_length old_evidence_length old_evidence_entry_at old_evidence_entry_length
      frame-evidence no_full found g few q = (rw (← e, ne_eqb c 0x01 no_submit, ne_eqb c 0x02 no_notice, ne_eqb c 0x03 no_full) (go (ℕ_discrete c 0x05)), omega arith)
        where
          go : Dec (c ≡ 0x05) → r ≡ cond (eqb c 0x05) (old_evidence_length (byte_at bytes old_evidence_count_at)) (evidence_length (byte_at bytes evidence_count_at))
          go (yes old) = rw old (rw (g, pack-old bytes (sym e ∙ old)) at q)
          go (no new) = rw (ne_eqb c 0x05 new) (rw (g, pack-new bytes (λ old. new (e ∙ old))) at q)
