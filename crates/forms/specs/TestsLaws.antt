-- A message's 10, 11 and 12: its round, its seats and their order, as the tests find them.
-- Assumes nothing.
use Rattle.std.specs.Prelude.{◌≡◌, refl, Bool, true, false, not, ◌&&◌, ◌⊎◌, List, [], ◌∷◌, ◌++◌, ℕ, ◌+◌, ◌≤◌, ◌<◌, leb, eqb, length}
use Rattle.std.proofs.Common.{sym, ◌∙◌, ⊎_elim, arith, lt-ltb, le-ltb, le-leb, ne_eqb}
use Rattle.std.proofs.Math.Decide.{dec_lt, ℕ_discrete}
use Rattle.std.proofs.Math.Dec.{ltb}
use Rattle.std.proofs.lemmas.Bool.{lt-leb, not-true, not-false}
use Rattle.protocol.specs.Layout.{operands_at, value_length, seat_at, value_at}
use Rattle.protocol.specs.Message.{Message, Submit, Notice, Full, Evidence, Garbled, byte_at, read_round, read_submit, read_notice, read_full, read_evidence, read, round_of, entry_seats, seats_of}
use Rattle.protocol.specs.Refusals.{every, rising, other_round, stranger, disorder}
use Rattle.protocol.specs.ConditionsLaws.{every_append}
use Rattle.wire.specs.Reading.{kind_of}
use Rattle.wire.specs.KindLaws.{read_as_lem, tag}
use Rattle.wire.specs.MessageLaws.{long-enough}
use Rattle.wire.specs.declared.read.Kind.{Kind}
use Rattle.wire.specs.declared.read.Kind.TheVariants as kind
use Rattle.forms.specs.Senders.{senders_of}

-- ---- 10: the round

round-read : (t : Kind) (n : ℕ) (bytes : List ℕ) → t ≡ kind_of (read n bytes) → (t ≡ kind.Garbled → ⊥) → round_of (read n bytes) ≡ read_round bytes
unfolding round_of read_submit read_notice read_full read_evidence
round-read kind.Submit n bytes e h = rw (read_as_lem kind.Submit n bytes e).0
round-read kind.Notice n bytes e h = rw (read_as_lem kind.Notice n bytes e).0
round-read kind.Full n bytes e h = rw (read_as_lem kind.Full n bytes e).0
round-read kind.OldEvidence n bytes e h = rw (read_as_lem kind.OldEvidence n bytes e).0
round-read kind.Evidence n bytes e h = rw (read_as_lem kind.Evidence n bytes e).0
round-read kind.Garbled n bytes e h = absurd (h refl)

garbled_tag : (t : Kind) → tag t ≡ 5 → t ≡ kind.Garbled
garbled_tag kind.Submit e = absurd (omega arith)
garbled_tag kind.Notice e = absurd (omega arith)
garbled_tag kind.Full e = absurd (omega arith)
garbled_tag kind.OldEvidence e = absurd (omega arith)
garbled_tag kind.Evidence e = absurd (omega arith)
garbled_tag kind.Garbled e = refl

-- a message that isn't garbled has a round
pub round-inside : (t : Kind) (n : ℕ) (bytes : List ℕ) → t ≡ kind_of (read n bytes) → (t ≡ kind.Garbled → ⊥) → operands_at ≤ length bytes
round-inside t n bytes e h = omega (arith, long-enough t n bytes e (λ z. h (garbled_tag t z)))

pub round-told : (t : Kind) (n : ℕ) (bytes : List ℕ) → t ≡ kind_of (read n bytes) → (t ≡ kind.Garbled → ⊥)
    → (r round : ℕ) → r ≡ read_round bytes → not (eqb r round) ≡ other_round round (read n bytes)
unfolding other_round
round-told t n bytes e h r round q = rw (q, round-read t n bytes e h)

pub round_garbled : (t : Kind) (n : ℕ) (bytes : List ℕ) → t ≡ kind_of (read n bytes) → t ≡ kind.Garbled → (round : ℕ) → not (eqb round 0) ≡ other_round round (read n bytes)
unfolding other_round round_of
round_garbled t n bytes e g round = rw (read_as_lem kind.Garbled n bytes (sym g ∙ e)).0 (go (ℕ_discrete round 0))
  where
    go : Dec (round ≡ 0) → not (eqb round 0) ≡ not (eqb 0 round)
    go (yes q) = rw q
    go (no d) = rw (ne_eqb round 0 d, ne_eqb 0 round (λ q. d (sym q)))

-- ---- 11: strangers

-- the kinds that name a sender, and those that name none
abbrev pub Named : Kind → Type 0
Named t = (t ≡ kind.Submit) ⊎ ((t ≡ kind.Notice) ⊎ (t ≡ kind.Full))

abbrev pub Unnamed : Kind → Type 0
Unnamed t = (t ≡ kind.OldEvidence) ⊎ ((t ≡ kind.Evidence) ⊎ (t ≡ kind.Garbled))

module _ (t : Kind) (n : ℕ) (bytes : List ℕ) (e : t ≡ kind_of (read n bytes)) where
  names-sender : Named t → senders_of (read n bytes) ≡ byte_at bytes seat_at ∷ []
  unfolding senders_of read_submit read_notice read_full
  names-sender =
      ⊎_elim (λ g. rw (read_as_lem kind.Submit n bytes (sym g ∙ e)).0)
      (⊎_elim (λ g. rw (read_as_lem kind.Notice n bytes (sym g ∙ e)).0) (λ g. rw (read_as_lem kind.Full n bytes (sym g ∙ e)).0))

  names_none : Unnamed t → senders_of (read n bytes) ≡ []
  unfolding senders_of read_evidence
  names_none =
      ⊎_elim (λ g. rw (read_as_lem kind.OldEvidence n bytes (sym g ∙ e)).0)
      (⊎_elim (λ g. rw (read_as_lem kind.Evidence n bytes (sym g ∙ e)).0) (λ g. rw (read_as_lem kind.Garbled n bytes (sym g ∙ e)).0))

  -- the sender's seat lies in the message
  pub sender-inside : Named t → seat_at < length bytes
  sender-inside h =
      let long : value_at + value_length ≤ length bytes =
      ⊎_elim (λ g. long-enough kind.Submit n bytes (sym g ∙ e) (λ z. omega arith))
      (⊎_elim (λ g. long-enough kind.Notice n bytes (sym g ∙ e) (λ z. omega arith)) (λ g. long-enough kind.Full n bytes (sym g ∙ e) (λ z. omega arith))) h in
      omega arith

not_below : (x n : ℕ) → leb n x ≡ not (ltb x n && true)
not_below x n = go (dec_lt x n)
  where
    go : Dec (x < n) → leb n x ≡ not (ltb x n && true)
    go (yes l) = rw (lt-leb n x l, lt-ltb x n l)
    go (no l) = rw (le-leb n x (omega arith), le-ltb x n (omega arith))

pub sender-told : (t : Kind) (n : ℕ) (bytes : List ℕ) → t ≡ kind_of (read n bytes) → Named t
    → (r : ℕ) → r ≡ byte_at bytes seat_at → leb n r ≡ not (every (λ (s : ℕ). ltb s n) (senders_of (read n bytes)))
unfolding every
sender-told t n bytes e h r q = rw (names-sender t n bytes e h, q) (not_below (byte_at bytes seat_at) n)

pub sender_none : (t : Kind) (n : ℕ) (bytes : List ℕ) → t ≡ kind_of (read n bytes) → Unnamed t → false ≡ not (every (λ (s : ℕ). ltb s n) (senders_of (read n bytes)))
unfolding every
sender_none t n bytes e h = rw (names_none t n bytes e h)

-- every seat: the sender's and those of the entries
seats-parts : (m : Message) → seats_of m ≡ senders_of m ++ entry_seats m
unfolding seats_of senders_of entry_seats
seats-parts (Submit round seat value signature) = refl
seats-parts (Notice round seat value) = refl
seats-parts (Full round sender value entries) = refl
seats-parts (Evidence round form entries) = refl
seats-parts Garbled = refl

module _ (n : ℕ) (m : Message) where
  stranger-parts : stranger n m ≡ not (every (λ (s : ℕ). ltb s n) (senders_of m) && every (λ (s : ℕ). ltb s n) (entry_seats m))
  unfolding stranger
  stranger-parts = rw (seats-parts m, every_append (λ (s : ℕ). ltb s n) (senders_of m) (entry_seats m))

  pub stranger-sender : (r : Bool) → r ≡ not (every (λ (s : ℕ). ltb s n) (senders_of m)) → r ≡ true → true ≡ stranger n m
  stranger-sender r e h = sym (stranger-parts ∙ rw (not-true (every (λ (s : ℕ). ltb s n) (senders_of m)) (sym e ∙ h)))

  pub stranger-entries : (r : Bool) → r ≡ not (every (λ (s : ℕ). ltb s n) (senders_of m)) → r ≡ false
      → (b : Bool) (l : List ℕ) → l ≡ entry_seats m → b ≡ every (λ (s : ℕ). ltb s n) l → not b ≡ stranger n m
  stranger-entries r e h b l q p = sym (stranger-parts ∙ rw (not-false (every (λ (s : ℕ). ltb s n) (senders_of m)) (sym e ∙ h), ← q, ← p))

-- ---- 12: the order of the entries' seats

pub disorder-told : (m : Message) (b : Bool) (l : List ℕ) → l ≡ entry_seats m → b ≡ rising l → not b ≡ disorder m
unfolding disorder
disorder-told m b l q e = rw (e, q)
