-- Laws of the refusal number and of its conditions.
use Rattle.std.specs.Prelude.{◌≡◌, refl, Bool, true, false, cond, ◌&&◌, ◌||◌, List, [], ◌∷◌, ◌++◌, ℕ, zero, suc, ◌≤◌, leb}
use Rattle.std.proofs.Math.Path.{sym}
use Rattle.std.proofs.Common.{◌∙◌, true≢false, arith, leb-true}
use Rattle.std.proofs.lemmas.Bool.{false≢true}
use Rattle.std.proofs.Math.Decide.{ℕ_discrete}
use Rattle.refusal.specs.Refusal.{first_of, unrefused, numbers, nonzero, ◌before◌}

-- ---- tests

pub both_true : (a b : Bool) → (a && b) ≡ true → (a ≡ true) × (b ≡ true)
both_true true b e = (refl, e)
both_true false b e = absurd (false≢true e)

pub both_false : (a b : Bool) → (a || b) ≡ false → (a ≡ false) × (b ≡ false)
both_false true b e = absurd (true≢false e)
both_false false b e = (refl, e)

-- ---- refusals

-- a refused call leaves the old
pub refused-old : {A : Type 0} (number : ℕ) (new old : A) → (number ≡ 0 → ⊥) → unrefused number new old ≡ old
unfolding unrefused
refused-old zero new old h = absurd (h refl)
refused-old (suc n) new old h = refl

-- where nothing is refused, no condition holds
pub first_of-zero : (n : ℕ) (t : Bool) (rest : List (ℕ × Bool)) → first_of ((suc n, t) ∷ rest) ≡ 0 → (t ≡ false) × (first_of rest ≡ 0)
unfolding first_of
first_of-zero n true rest e = absurd (omega arith)
first_of-zero n false rest e = (refl, e)

by_test : (b : Bool) (n old new : ℕ) → (cond b n old ≡ 0 → ⊥) → ((old ≡ 0 → ⊥) → new ≡ old) → cond b n new ≡ cond b n old
by_test true n old new h f = refl
by_test false n old new h f = f h

-- a refusal by the first rows is the same with any rows after them
first_of-front : (xs ys : List (ℕ × Bool)) → (first_of xs ≡ 0 → ⊥) → first_of (xs ++ ys) ≡ first_of xs
unfolding first_of
first_of-front [] ys h = absurd (h refl)
first_of-front (x ∷ xs) ys h = by_test x.1 x.0 (first_of xs) (first_of (xs ++ ys)) h (first_of-front xs ys)

-- the number of some rows with others after them
pub first_of_before : (xs ys : List (ℕ × Bool)) → nonzero (numbers xs) ≡ true → first_of (xs ++ ys) ≡ (first_of xs before first_of ys)
unfolding first_of numbers nonzero ◌before◌
first_of_before [] ys h = refl
first_of_before ((n, b) ∷ xs) ys h =
    let two = both_true (leb 1 n) (nonzero (numbers xs)) h in
    at n b (leb-true 1 n two.0) (first_of_before xs ys two.1)
  where
    at : (n : ℕ) (b : Bool) → 1 ≤ n → first_of (xs ++ ys) ≡ (first_of xs before first_of ys) → cond b n (first_of (xs ++ ys)) ≡ (cond b n (first_of xs) before first_of ys)
    at zero b l rest = absurd (omega arith)
    at (suc n) true l rest = refl
    at (suc n) false l rest = rest

-- ---- some conditions, and others after them

module _ (xs ys : List (ℕ × Bool)) where
  module _ (number : ℕ) (e : number ≡ first_of xs) where
    -- a refusal by the first
    pub refused_first : (number ≡ 0 → ⊥) → number ≡ first_of (xs ++ ys)
    refused_first h = e ∙ sym (first_of-front xs ys (λ z. h (e ∙ z)))

    -- where they refuse nothing, a refusal by the others
    pub refused-later : nonzero (numbers xs) ≡ true → number ≡ 0 → first_of ys ≡ first_of (xs ++ ys)
    unfolding ◌before◌
    refused-later some z = sym (first_of_before xs ys some ∙ rw (sym e ∙ z))

  -- where nothing is refused, nothing is refused by the first
  pub passed_first : first_of (xs ++ ys) ≡ 0 → first_of xs ≡ 0
  passed_first e = go (ℕ_discrete (first_of xs) 0)
    where
      go : Dec (first_of xs ≡ 0) → first_of xs ≡ 0
      go (yes z) = z
      go (no d) = absurd (d (sym (first_of-front xs ys d) ∙ e))

-- ---- code that tests one row after another

-- no row is left
pub none_left : (number : ℕ) → number ≡ 0 → number ≡ first_of []
unfolding first_of
none_left number z = z

module _ (n : ℕ) (test : Bool) (rest : List (ℕ × Bool)) where
  -- a row that holds is the answer
  pub row-held : test ≡ true → n ≡ first_of ((n, test) ∷ rest)
  unfolding first_of
  row-held e = rw e

  -- after one that doesn't, the answer is that of the rest
  pub row-passed : (number : ℕ) → test ≡ false → number ≡ first_of rest → number ≡ first_of ((n, test) ∷ rest)
  unfolding first_of
  row-passed number e f = rw e f

  -- the same of a test that the code made
  module _ (b : Bool) (e : b ≡ test) where
    pub test-held : b ≡ true → n ≡ first_of ((n, test) ∷ rest)
    test-held h = row-held (sym e ∙ h)

    pub test-passed : (number : ℕ) → b ≡ false → number ≡ first_of rest → number ≡ first_of ((n, test) ∷ rest)
    test-passed number h f = row-passed number (sym e ∙ h) f

-- and of some rows that the code tested together
module _ (xs ys : List (ℕ × Bool)) (x : ℕ) (e : x ≡ first_of xs) where
  pub rows_passed : nonzero (numbers xs) ≡ true → x ≡ 0 → (number : ℕ) → number ≡ first_of ys → number ≡ first_of (xs ++ ys)
  rows_passed some z number f = f ∙ refused-later xs ys x e some z

-- for `search`: the answer, by the tests that led to it
pub ruleset rows = (none_left, row-held, row-passed, test-held, test-passed, refused_first, rows_passed)
