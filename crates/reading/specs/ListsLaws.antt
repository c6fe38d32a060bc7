-- Laws of tests and lists, for the laws of calls.
-- Assumes nothing.
use Rattle.std.specs.Prelude.{◌≡◌, refl, Bool, true, false, cond, ◌&&◌, ◌||◌, ◌⊎◌, ℕ, suc, ◌+◌, ◌≤◌, ◌<◌, ltb}
use Rattle.std.proofs.Common.{sym, subst, inl, inr, ⊎_elim, arith, ltb-true, lt-ltb}
use mathlib.Core.List.Memᴰ
use mathlib.Core.List.{List, [], ◌∷◌, ◌++◌, map, Memᴰ}
use Rattle.quorum.specs.QuorumLaws.{Rises}
use Rattle.refusal.specs.RefusalLaws.{both_true}
use Rattle.protocol.specs.Refusals.{rising}
use Rattle.round.specs.Round.{Each}
use Rattle.round.specs.Demand1.{worth, count}

-- ---- tests

pub cond_elim {ℓ} : {A : Type ℓ} (P : A → Type 0) (b : Bool) (x y : A) → (b ≡ true → P x) → (b ≡ false → P y) → P (cond b x y)
cond_elim P true x y f g = f refl
cond_elim P false x y f g = g refl

pub and_false-either : (a b : Bool) → (a && b) ≡ false → (a ≡ false) ⊎ (b ≡ false)
and_false-either true b e = inr e
and_false-either false b e = inl refl

pub or_true-either : (a b : Bool) → (a || b) ≡ true → (a ≡ true) ⊎ (b ≡ true)
or_true-either true b e = inl refl
or_true-either false b e = inr e

pub worth_le_one : (b : Bool) → worth b ≤ 1
unfolding worth
worth_le_one true = omega arith
worth_le_one false = omega arith

pub worth-true : (b : Bool) → b ≡ true → worth b ≡ 1
unfolding worth
worth-true b e = rw e

worth-false : (b : Bool) → b ≡ false → worth b ≡ 0
unfolding worth
worth-false b e = rw e

pub true_of_worth : (b : Bool) → worth b ≡ 1 → b ≡ true
unfolding worth
true_of_worth true e = refl
true_of_worth false e = absurd (omega arith)

-- ---- all members of a list

module _ {ℓ} {A : Type ℓ} (P : A → Type 0) where
  pub each_nil : Each P []
  each_nil x d = absurd (Memᴰ.not-nil d)

  pub each_cons : (a : A) (xs : List A) → P a → Each P xs → Each P (a ∷ xs)
  each_cons a xs p rest x d = ⊎_elim (λ e. subst P (sym e) p) (λ t. rest x t) (Memᴰ.cases_cons d)

  pub each_one : (a : A) → P a → Each P (a ∷ [])
  each_one a p = each_cons a [] p each_nil

  pub each_append : (xs ys : List A) → Each P xs → Each P ys → Each P (xs ++ ys)
  each_append xs ys p q x d = ⊎_elim (p x) (q x) (Memᴰ.append_cases xs d)

pub each_map {ℓ κ} : {A : Type ℓ} {B : Type κ} (P : B → Type 0) (f : A → B) (xs : List A) → Each (λ x. P (f x)) xs → Each P (map f xs)
each_map P f xs p y d = let m = Memᴰ.of_map f xs d in subst P m.2 (p m.0 m.1)

-- ---- how many of a list pass a test

pub count_append {ℓ} : {A : Type ℓ} (test : A → Bool) (xs ys : List A) → count test (xs ++ ys) ≡ count test xs + count test ys
unfolding count
count_append test [] ys = omega arith
count_append test (x ∷ xs) ys = omega (arith, count_append test xs ys)

pub count_nil {ℓ} : {A : Type ℓ} (test : A → Bool) → count test [] ≡ 0
unfolding count
count_nil test = refl

pub count-one {ℓ} : {A : Type ℓ} (test : A → Bool) (x : A) → count test (x ∷ []) ≡ worth (test x)
unfolding count
count-one test x = omega arith

pub count_member {ℓ} : {A : Type ℓ} (test : A → Bool) (xs : List A) → 1 ≤ count test xs → (x : A) × Memᴰ x xs × (test x ≡ true)
unfolding count worth
count_member test [] h = absurd (omega arith)
count_member {A = A} test (x ∷ xs) h = go (test x) refl (λ l. count_member test xs l)
  where
    go : (b : Bool) → test x ≡ b → (1 ≤ count test xs → (y : A) × Memᴰ y xs × (test y ≡ true)) → (y : A) × Memᴰ y (x ∷ xs) × (test y ≡ true)
    go true e rest = (x, Memᴰ.head refl, e)
    go false e rest =
        let r = rest (let z = worth-false (test x) e in omega arith) in
        (r.0, Memᴰ.tail r.1, r.2)

pub count_pos {ℓ} : {A : Type ℓ} (test : A → Bool) (xs : List A) (x : A) → Memᴰ x xs → test x ≡ true → 1 ≤ count test xs
unfolding count
count_pos test [] x d e = absurd (Memᴰ.not-nil d)
count_pos test (y ∷ xs) x d e =
    ⊎_elim (λ q. let w = worth-true (test y) (subst (λ z. test z ≡ true) q e) in omega arith) (λ t. omega (arith, count_pos test xs x t e)) (Memᴰ.cases_cons d)

-- ---- rising seats

pub rising_of_rises : (l : List ℕ) → Rises l → rising l ≡ true
unfolding rising
rising_of_rises [] r = refl
rising_of_rises (a ∷ []) r = refl
rising_of_rises (a ∷ b ∷ rest) r =
    rw (lt-ltb a b (r 0 1 (omega arith) (omega arith))) (rising_of_rises (b ∷ rest) (λ i j h l. r (suc i) (suc j) (omega arith) (omega arith)))

-- the first is below the others
pub rising_first : (a : ℕ) (l : List ℕ) → rising (a ∷ l) ≡ true → (rising l ≡ true) × Each (λ s. a < s) l
unfolding rising
rising_first a [] e = (refl, each_nil (λ s. a < s))
rising_first a (b ∷ rest) e =
    let both = both_true (ltb a b) (rising (b ∷ rest)) e in
    let l : a < b = ltb-true a b both.0 in
    let next = rising_first b rest both.1 in
    (both.1, each_cons (λ s. a < s) b rest l (λ s d. let h = next.1 s d in omega arith))
