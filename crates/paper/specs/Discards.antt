-- Messages that a step refuses for a signature (14): the machine discards them, changes nothing and sends nothing.
-- Assumes nothing.
use Rattle.std.specs.Prelude.{ℕ, ◌<◌, ◌≡◌, Bool, cond, ◌&&◌, ◌≢◌, length}
use Rattle.std.proofs.Math.Path.{refl, sym, ap, fun_ext}
use Rattle.std.proofs.Common.{◌∙◌, arith}
use Rattle.std.proofs.Math.Bool.{true, false, and-true, and-false}
use Rattle.std.proofs.lemmas.Bool.{false≢true}
use mathlib.Core.List.{List, [], ◌∷◌, flat_map}
use Rattle.std.proofs.Math.Dec.{leb}
use borrow.Author.Tests.{le-ltb, not-true}
use Rattle.quorum.specs.Quorum.{k}
use Rattle.refusal.specs.Refusal.{first_of}
use Rattle.protocol.specs.Layout.{store_length, out_length}
use Rattle.protocol.specs.Message.{Entry, Message, Submit, Notice, Full, Evidence, Garbled, Signed, signed_entry, signed, round_of, entry_seats, seats_of}
use Rattle.protocol.specs.Refusals.{Checks, every, short_store, short_out, is_for_step, rising, bad_signature, message_conditions, record_conditions, step_conditions}
use Rattle.protocol.specs.ConditionsLaws.{every_flat}
use Rattle.protocol.specs.declared.Record.{Record}
use Rattle.round.specs.Round.{Each}
use Rattle.claims.specs.UnrefusedLaws.{of_taken}
use Rattle.claims.specs.NotRefused.{Lent, keys_right}
use Rattle.paper.specs.Machine.{FullCertificate, Machine, Reaction, is_some, distinct, is_full_certificate, is_collected, collecting, keeping, upon_submit_delivered, upon_full_delivered, obtain, upon_event, upon_rules, react}
use Rattle.paper.specs.Events.{delivered, is_delivered, react_to}
use Rattle.paper.specs.Rules.{AtRest, rest-quiet}

-- ---- meaning of a refusal number

-- a first row with another number than the answer can be left out
first_of-other : (i j : ℕ) (b : Bool) (rest : List (ℕ × Bool)) → i ≢ j → first_of ((i, b) ∷ rest) ≡ j → first_of rest ≡ j
unfolding first_of
first_of-other i j true rest d e = absurd (d e)
first_of-other i j false rest d e = e

last_holds : (i : ℕ) (b : Bool) → i ≢ 0 → first_of ((i, b) ∷ []) ≡ i → b ≡ true
unfolding first_of
last_holds i true d e = refl
last_holds i false d e = absurd (d (sym e))

module _ (checks : Checks) (keys : List ℕ) (r : Record) (store : List ℕ) (m : Message) (out : List ℕ) where
  pub refused-signature : first_of (step_conditions checks keys r store m out) ≡ 14 → bad_signature checks m ≡ true
  unfolding step_conditions record_conditions message_conditions
  refused-signature e =
      let past : (i : ℕ) (b : Bool) (rest : List (ℕ × Bool)) → i < 14 → first_of ((i, b) ∷ rest) ≡ 14 → first_of rest ≡ 14 = λ i b rest l. first_of-other i 14 b rest (λ q. omega arith) in
      last_holds 14 (bad_signature checks m) (λ q. omega arith)
      (past 12 _ _ (omega arith) (past 11 _ _ (omega arith) (past 10 _ _ (omega arith) (past 9 _ _ (omega arith) (past 7 _ _ (omega arith) (past 6 _ _ (omega arith) (past 5 _ _ (omega arith) (past 4 _ _ (omega arith) e))))))))

  -- a message with no cause for any other refusal is delivered
  pub fit-delivered : Lent keys r store out → is_for_step m ≡ true → round_of m ≡ r.round → Each (λ s. s < r.n) (seats_of m) → rising (entry_seats m) ≡ true → is_delivered (first_of (step_conditions checks keys r store m out)) ≡ true
  unfolding step_conditions record_conditions message_conditions short_store short_out first_of is_delivered
  fit-delivered lent for_step_lem in-round inside rises =
      let form = of_taken (λ s v g. true) r.n r.round m (record { in_round = in-round; inside = inside; rises = rises; checked = λ s d. refl }) in
      rw (
        lent.possible,
        (keys_right keys r.n).1 lent.table,
        le-ltb (length store) (store_length r.n) lent.store_room,
        le-ltb (length out) (out_length r.n) lent.out_room,
        for_step_lem,
        form.0,
        form.1,
        form.2,
      )
      (either (bad_signature checks m))
    where
      either : (b : Bool) → is_delivered (cond b 14 0) ≡ true
      either true = refl
      either false = refl

-- ---- the machine's reaction to such a message

signed_every : (checks : Checks) (v : List ℕ) (es : List Entry)
    → every (λ (s : Signed). checks s.seat s.value s.signature) (flat_map (signed_entry v) es) ≡ every (λ (e : Entry). checks e.seat v e.signature) es
unfolding every signed_entry
signed_every checks v es = every_flat _ (signed_entry v) es ∙ ap (λ (test : Entry → Bool). every test es) (fun_ext (λ e. and-true _))

module _ (checks : Checks) (n seat : ℕ) (m : Machine) (rest : AtRest n m) where
  abbrev still : Reaction
  still = record { machine = m; actions = [] }

  not_signed : (s : ℕ) (v g : List ℕ) → checks s v g ≡ false → upon_rules checks n seat (upon_submit_delivered checks n seat s v g still) ≡ still
  unfolding upon_submit_delivered collecting keeping is_collected
  not_signed s v g e = rw e (go (is_some m.value) ∙ rest-quiet checks n seat still rest)
    where
      go : (b : Bool) → upon_rules checks n seat (cond b still still) ≡ upon_rules checks n seat still
      go true = refl
      go false = refl

  not_obtained : (c : FullCertificate) → is_full_certificate checks n seat c ≡ false → upon_rules checks n seat (upon_full_delivered checks n seat c still) ≡ still
  unfolding upon_full_delivered
  not_obtained c e = ap (λ (b : Bool). upon_rules checks n seat (cond b (obtain checks n seat c still) still)) e ∙ rest-quiet checks n seat still rest

  -- "Any SUBMIT message that is not properly signed is discarded.", and a set with such a message is no full certificate
  pub unsigned_discarded : (msg : Message) → bad_signature checks msg ≡ true → react_to checks n seat (delivered msg) m ≡ still
  unfolding bad_signature signed every delivered react_to react upon_event is_full_certificate
  unsigned_discarded (Submit ρ s v g) e = not_signed s v g (sym (and-true (checks s v g)) ∙ not-true (checks s v g && true) e)
  unsigned_discarded (Notice ρ s v) e = absurd (false≢true e)
  unsigned_discarded (Full ρ sender v es) e =
      let unsigned : every (λ (a : Entry). checks a.seat v a.signature) es ≡ false =
      sym (signed_every checks v es) ∙ not-true (every (λ (s : Signed). checks s.seat s.value s.signature) (flat_map (signed_entry v) es)) e in
      not_obtained (record { value = v; entries = es })
      (ap (λ (b : Bool). leb (k n) (length es) && distinct es && b) unsigned ∙ and-false (leb (k n) (length es) && distinct es))
  unsigned_discarded (Evidence ρ form ps) e = refl
  unsigned_discarded Garbled e = refl
