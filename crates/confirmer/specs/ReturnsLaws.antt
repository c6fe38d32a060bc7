-- Results of submit and step, from their refusals and their phases.
-- Assumes nothing.
use Rattle.std.specs.Prelude.{◌≡◌, refl, Result, IsErrAnd, List, ◌++◌, ℕ, ◌+◌, ◌^◌, ◌≤◌, ◌<◌, length, take, drop}
use Rattle.std.proofs.Common.{sym, ap, ◌∙◌, append_assoc, zero-add, arith, length-append, take-append-drop, length-take-le}
use Rattle.std.proofs.lemmas.List.{drop-append-le}
use Rattle.octets.specs.Octets.{patch}
use Rattle.octets.specs.StringsLaws.{patch-nothing}
use Rattle.quorum.specs.Quorum.{k}
use Rattle.refusal.specs.declared.Refusal.{Refusal}
use Rattle.refusal.specs.Answers.{number_of}
use Rattle.refusal.specs.AnswersLaws.{number-nonzero, handed_on}
use Rattle.refusal.specs.Refusal.{first_of, unrefused}
use Rattle.refusal.specs.RefusalLaws.{refused-old, refused_first, refused-later}
use Rattle.protocol.specs.Layout.{out_length}
use Rattle.protocol.specs.Figures.{out_figure}
use Rattle.protocol.specs.Message.{read, render_all}
use Rattle.protocol.specs.Signatures.{checks}
use Rattle.protocol.specs.Refusals.{Condition, is_for_step, record_conditions, message_conditions}
use Rattle.protocol.specs.Record.{Ready}
use Rattle.protocol.specs.Step.{State, submitted, stepped}
use Rattle.protocol.specs.Calls.{out_after, result_by, start, answer}
use Rattle.protocol.specs.declared.Record.{Record}
use Rattle.protocol.specs.declared.Stepped.{Stepped}
use Rattle.signatures.specs.Given.{Given}
use Rattle.validate.specs.Calls.{own_conditions}
use Rattle.validate.specs.GivenLaws.{record_ready, record_given, record_nonzero}
use Rattle.phase.specs.Phases.{Did}
use Rattle.phase.specs.declared.Phase.{Phase}
use Rattle.confirmer.specs.Returns.{answered, answered_in}

-- a submit or a step: arguments, conditions after those of the record, and phases
pub record Call : Type 0 where
  pub keys : List ℕ
  pub unit : Record
  pub store : List ℕ
  pub out : List ℕ
  pub rest : List Condition
  pub phases : State → State

abbrev pub submitting : List ℕ → Record → List ℕ → List ℕ → List ℕ → List ℕ → Call
submitting keys r store value signature out =
    record { keys = keys; unit = r; store = store; out = out; rest = own_conditions (checks keys r.round) r value signature; phases = submitted value signature }

abbrev pub stepping : List ℕ → Record → List ℕ → List ℕ → List ℕ → Call
stepping keys r store bytes out =
    let m = read r.n bytes in
    record { keys = keys; unit = r; store = store; out = out; rest = message_conditions (checks keys r.round) r.n r.round (is_for_step m) m; phases = stepped m }

-- conditions of record, key table, store and out
abbrev first : Call → List Condition
first c = record_conditions c.keys c.unit c.store c.out

-- state after the phases
abbrev outcome : Call → State
outcome c = c.phases (start c.unit c.store)

-- answer, store and out after a call
abbrev Leaves : Call → Stepped → List ℕ → List ℕ → Type 0
Leaves c a store out =
    let result = result_by (first_of (first c ++ c.rest)) (outcome c) c.unit c.store in
    (a ≡ answer result) × (store ≡ result.store) × (out ≡ out_after result.written c.out)

-- ---- points of a call

-- no refusal for record, key table, store and out
abbrev pub Passed : Call → Type 0
Passed c = 0 ≡ first_of (first c)

-- nor for the rest, and the phases are lent the part of out that document 01 states
pub record Lent (c : Call) (room : ℕ) : Type 0 where
  pub passed : Passed c
  pub told : 0 ≡ first_of c.rest
  pub stated : room ≡ out_length c.unit.n

-- the phases are done: their answer, the store and this part after them
pub record Acted (c : Call) (room : ℕ) (p : Phase) (store part : List ℕ) : Type 0 where
  pub lent : Lent c room
  pub did : Did c.phases c.unit c.store (take room c.out) 0 p.unit store part p.at
  pub long : length part ≡ length (take room c.out)

module _ (c : Call) (passed : Passed c) where
  pub ready : Ready c.unit c.store c.out
  ready = record_ready c.keys c.unit c.store c.out 0 passed refl

  pub given : Given c.unit.n c.unit.round c.keys
  given = record_given c.keys c.unit c.store c.out 0 passed refl

  after_record : first_of c.rest ≡ first_of (first c ++ c.rest)
  after_record = refused-later (first c) c.rest 0 passed (record_nonzero c.keys c.unit c.store c.out) refl

-- ---- refusals

-- "A refusal returns its number and 0 bytes written; record, store, tree and out keep every byte."
refused : (c : Call) (number : ℕ) → (number ≡ 0 → ⊥) → number ≡ first_of (first c ++ c.rest) → Leaves c (answered number 0 c.unit) c.store c.out
unfolding result_by answer out_after
refused c number h e = rw (← e) (simp refused-old (refl, refl, sym (patch-nothing c.out)))

-- a refusal handed on
module _ (c : Call) (r : Result Phase Refusal) (e : Refusal) (h : IsErrAnd r (λ y. y ≡ e)) where
  handed : number_of e ≡ first_of (first c ++ c.rest) → Leaves c (answered_in c.unit r) c.store c.out
  handed told = rw (handed_on r e h) (refused c (number_of e) (number-nonzero e) told)

  pub refused_by_record : number_of e ≡ first_of (first c) → Leaves c (answered_in c.unit r) c.store c.out
  refused_by_record told = handed (refused_first (first c) c.rest (number_of e) told (number-nonzero e))

  pub refused_by_rest : Passed c → number_of e ≡ first_of c.rest → Leaves c (answered_in c.unit r) c.store c.out
  refused_by_rest passed told = handed (told ∙ after_record c passed)

-- ---- phases

-- the part of out that the phases are lent
module _ {c : Call} {room : ℕ} (lent : Lent c room) where
  pub part-within : room ≤ length c.out
  part-within = omega (arith, lent.stated, (ready c lent.passed).room)

  pub part_length : room ≡ length (take room c.out)
  part_length = sym (length-take-le room c.out part-within)

  pub part-ready : Ready c.unit c.store (take room c.out)
  part-ready =
      let whole = ready c lent.passed in
      record { possible = whole.possible; slots = whole.slots; room = omega (arith, lent.stated, part_length) }

-- this part after them, and so out
module _ {c : Call} {room : ℕ} {p : Phase} {store part : List ℕ} (acted : Acted c room p store part) where
  abbrev bytes : List ℕ
  bytes = render_all (outcome c).written

  abbrev lent-part : List ℕ
  lent-part = take room c.out

  written-within : length bytes ≤ room
  unfolding patch
  written-within =
      let size : length part ≡ length bytes + length (drop (0 + length bytes) lent-part) = ap length acted.did.wrote.wrote ∙ length-append bytes (drop (0 + length bytes) lent-part) in
      omega (arith, size, acted.long, part_length acted.lent)

  -- the number of bytes written fits 32 bits
  pub end-small : p.at < 2 ^ 32
  unfolding k
  end-small = omega (arith, (given c acted.lent.passed).most, acted.lent.stated, out_figure c.unit.n, acted.did.wrote.ends, written-within)

  whole : part ++ drop room c.out ≡ out_after bytes c.out
  unfolding out_after patch
  whole =
      let inside : length bytes ≤ length lent-part = omega (arith, written-within, part_length acted.lent) in
      let rest : drop (length bytes) lent-part ++ drop room c.out ≡ drop (length bytes) c.out =
      sym (drop-append-le (length bytes) lent-part (drop room c.out) inside) ∙ ap (drop (length bytes)) (take-append-drop room c.out) in
      let patched : part ≡ bytes ++ drop (length bytes) lent-part = rw zero-add at acted.did.wrote.wrote in
      rw (patched, zero-add, append_assoc, rest)

  pub leaves : Leaves c (answered 0 p.at p.unit) store (part ++ drop room c.out)
  unfolding result_by unrefused answer
  leaves =
      let none : first_of (first c ++ c.rest) ≡ 0 = sym (acted.lent.told ∙ after_record c acted.lent.passed) in
      let ends : p.at ≡ length bytes = acted.did.wrote.ends ∙ zero-add (length bytes) in
      rw none (rw (ends, acted.did.changed.recorded), acted.did.changed.stored, whole)
