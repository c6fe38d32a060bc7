-- "A refusal returns its number and 0 bytes written; record, store, tree and out keep every byte.": the law for the results
-- that the contracts of a submit, of a step, by value and through the thin entry, of evidence from two certificates, of two packs joined, and
-- of writing a note promise. That of reading a note is
-- `protocol/specs/NoteClaim: refused-gives-zeros`.
-- Assumes nothing.
use Rattle.std.specs.Prelude.{ℕ, ◌≡◌, refl, ◌≢◌, List, []}
use Rattle.octets.specs.StringsLaws.{patch-nothing}
use Rattle.refusal.specs.RefusalLaws.{refused-old}
use Rattle.protocol.specs.Message.{Message}
use Rattle.protocol.specs.Refusals.{Checks}
use Rattle.protocol.specs.Step.{State}
use Rattle.protocol.specs.NoteClaim.{refused-writes-nothing}
use Rattle.protocol.specs.Calls.{Result, result_by, submit, step, out_after, making_by, making, joining, write_note}
use Rattle.protocol.specs.declared.Record.{Record}

-- the record, the store and out are as they were lent
abbrev pub Unchanged : Result → Record → List ℕ → List ℕ → Type 0
Unchanged result r store out = (result.unit ≡ r) × (result.store ≡ store) × (result.written ≡ []) × (out_after result.written out ≡ out)

refused_by : (refusal : ℕ) (s : State) (r : Record) (store out : List ℕ) → refusal ≢ 0 → Unchanged (result_by refusal s r store) r store out
unfolding result_by out_after
refused_by refusal s r store out h = simp refused-old (refl, refl, refl, patch-nothing out)

pub submit-refused : (checks : Checks) (keys : List ℕ) (r : Record) (store value signature out : List ℕ)
    → (submit checks keys r store value signature out).refusal ≢ 0 → Unchanged (submit checks keys r store value signature out) r store out
unfolding submit result_by
submit-refused checks keys r store value signature out = refused_by _ _ r store out

pub step-refused : (checks : Checks) (keys : List ℕ) (r : Record) (store bytes out : List ℕ)
    → (step checks keys r store bytes out).refusal ≢ 0 → Unchanged (step checks keys r store bytes out) r store out
unfolding step result_by
step-refused checks keys r store bytes out = refused_by _ _ r store out

-- and of evidence made from two certificates, and of two packs joined
made-refused : (refusal : ℕ) (m : Message) (out : List ℕ) → refusal ≢ 0
    → ((making_by refusal m).written ≡ []) × (out_after (making_by refusal m).written out ≡ out)
unfolding making_by out_after
made-refused refusal m out h = simp refused-old (refl, patch-nothing out)

pub making-refused : (checks : Checks) (n round : ℕ) (keys a b out : List ℕ) → (making checks n round keys a b out).refusal ≢ 0
    → ((making checks n round keys a b out).written ≡ []) × (out_after (making checks n round keys a b out).written out ≡ out)
unfolding making making_by
making-refused checks n round keys a b out = made-refused _ _ out

pub joining-refused : (checks : Checks) (n round : ℕ) (keys a b out : List ℕ) → (joining checks n round keys a b out).refusal ≢ 0
    → ((joining checks n round keys a b out).written ≡ []) × (out_after (joining checks n round keys a b out).written out ≡ out)
unfolding joining making_by
joining-refused checks n round keys a b out = made-refused _ _ out

pub write-note-refused : (r : Record) (out : List ℕ) → (write_note r out).refusal ≢ 0
    → ((write_note r out).written ≡ []) × (out_after (write_note r out).written out ≡ out)
unfolding out_after
write-note-refused r out h =
    let nothing = refused-writes-nothing r out h in
    (nothing, rw nothing (patch-nothing out))
