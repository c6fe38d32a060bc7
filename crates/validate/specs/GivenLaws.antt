-- Arguments that pass the first conditions of a call: n, round and key table; these and out; the record, key table, store and out.
-- Assumes nothing.
use Rattle.std.specs.Prelude.{◌≡◌, true, false, ℕ, ◌≤◌, length}
use Rattle.std.proofs.Math.Path.{refl, sym}
use Rattle.std.proofs.Common.{◌∙◌}
use mathlib.Core.List.{List, [], ◌∷◌}
use borrow.Author.Tests.{ltb-false}
use Rattle.refusal.specs.Refusal.{first_of, numbers, nonzero}
use Rattle.refusal.specs.RefusalLaws.{first_of-zero, refused_first, refused-later, passed_first}
use Rattle.protocol.specs.Layout.{store_length, out_length}
use Rattle.protocol.specs.Record.{impossible, Ready}
use Rattle.protocol.specs.RecordLaws.{right_size, right_round, possible}
use Rattle.protocol.specs.Refusals.{OUT, wrong_keys, short_store, short_out, outside_conditions, record_conditions}
use Rattle.protocol.specs.declared.Record.{Record}
use Rattle.signatures.specs.Given.{Given}
use Rattle.validate.specs.Calls.{given_conditions}

-- ---- outside a record

module _ (n round : ℕ) (keys : List ℕ) where
  pub outside-given : (number : ℕ) → number ≡ first_of (outside_conditions n round keys) → number ≡ 0 → Given n round keys
  unfolding outside_conditions
  outside-given number e z =
      let a = first_of-zero 0 _ _ (sym e ∙ z) in
      let b = first_of-zero 2 _ _ a.1 in
      let size = right_size n a.0 in
      record { some = size.0; most = size.1; dated = right_round round b.0; table = (first_of-zero 4 _ [] b.1).0 }

  pub outside-nonzero : nonzero (numbers (outside_conditions n round keys)) ≡ true
  unfolding outside_conditions nonzero numbers
  outside-nonzero = refl

-- ---- with an out, where evidence is made or packs are joined

module _ (n round : ℕ) (keys : List ℕ) (stated : ℕ) (out : List ℕ) where
  pub given-nonzero : nonzero (numbers (given_conditions n round keys stated out)) ≡ true
  unfolding given_conditions outside_conditions nonzero numbers
  given-nonzero = refl

  -- a refusal by n, round or key table; and by out, where they refuse nothing
  pub given-first : (number : ℕ) → number ≡ first_of (outside_conditions n round keys) → (number ≡ 0 → ⊥) → number ≡ first_of (given_conditions n round keys stated out)
  unfolding given_conditions
  given-first number e h = refused_first (outside_conditions n round keys) (OUT stated out ∷ []) number e h

  pub given-last : 0 ≡ first_of (outside_conditions n round keys) → (number : ℕ) → number ≡ first_of (OUT stated out ∷ []) → number ≡ first_of (given_conditions n round keys stated out)
  unfolding given_conditions
  given-last e number f = f ∙ refused-later (outside_conditions n round keys) (OUT stated out ∷ []) 0 e (outside-nonzero n round keys) refl

  pub given_right : (number : ℕ) → number ≡ first_of (given_conditions n round keys stated out) → number ≡ 0 → Given n round keys × (stated ≤ length out)
  unfolding given_conditions short_out
  given_right number e z =
      let all = sym e ∙ z in
      let room = OUT stated out ∷ [] in
      let first = passed_first (outside_conditions n round keys) room all in
      let last = refused-later (outside_conditions n round keys) room 0 (sym first) (outside-nonzero n round keys) refl ∙ all in
      (outside-given n round keys 0 (sym first) refl, ltb-false (length out) stated (first_of-zero 6 _ [] last).0)

-- ---- with a record

module _ (keys : List ℕ) (r : Record) (store out : List ℕ) where
  pub record_nonzero : nonzero (numbers (record_conditions keys r store out)) ≡ true
  unfolding record_conditions nonzero numbers
  record_nonzero = refl

  module _ (number : ℕ) (e : number ≡ first_of (record_conditions keys r store out)) (z : number ≡ 0) where
    passed : (impossible r ≡ false) × (wrong_keys r.n keys ≡ false) × (short_store r.n store ≡ false) × (short_out (out_length r.n) out ≡ false)
    unfolding record_conditions
    passed =
        let a = first_of-zero 3 _ _ (sym e ∙ z) in
        let b = first_of-zero 4 _ _ a.1 in
        let c = first_of-zero 5 _ _ b.1 in
        (a.0, b.0, c.0, (first_of-zero 6 _ [] c.1).0)

    pub record_ready : Ready r store out
    unfolding short_store short_out
    record_ready =
        record {
          possible = possible r passed.0;
          slots = ltb-false (length store) (store_length r.n) passed.2;
          room = ltb-false (length out) (out_length r.n) passed.3;
        }

    pub record_given : Given r.n r.round keys
    record_given =
        let range = (possible r passed.0).range in
        record { some = range.some; most = range.most; dated = range.dated; table = passed.1 }
