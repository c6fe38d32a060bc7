-- Laws of tests over a list, also one that grows at its end. A key table that isn't refused.
-- Assumes nothing.
use Rattle.std.specs.Prelude.{◌≡◌, refl, Bool, true, false, not, ◌&&◌, ◌↔◌, ℕ, ◌+◌, ◌<◌, ltb, eqb, length}
use Rattle.std.proofs.Common.{◌∙◌, ⊎_elim, eq-eqb, eqb-true}
use Rattle.std.proofs.Math.Bool.{and_assoc, and-true}
use mathlib.Core.List.Memᴰ
use mathlib.Core.List.{List, [], ◌∷◌, ◌++◌, flat_map}
use Rattle.std.proofs.lemmas.Bool.{not-false}
use Rattle.octets.specs.Octets.{word_at}
use Rattle.refusal.specs.RefusalLaws.{both_true, both_false}
use Rattle.protocol.specs.Layout.{key_at}
use Rattle.protocol.specs.Entries.{Each}
use Rattle.protocol.specs.EntriesLaws.{each_at, each_all}
use Rattle.protocol.specs.Conditions.{every, key_allowed, keys_allowed, wrong_keys, rising}

pub every_each {ℓ} : {A : Type ℓ} (test : A → Bool) (xs : List A) → every test xs ≡ true → Each (λ x. test x ≡ true) xs
unfolding every
every_each test [] e x d = absurd (Memᴰ.not-nil d)
every_each test (y ∷ xs) e x d =
    let both = both_true (test y) (every test xs) e in
    ⊎_elim (λ (q : x ≡ y). rw q both.0) (λ t. every_each test xs both.1 x t) (Memᴰ.cases_cons d)

pub each_every {ℓ} : {A : Type ℓ} (test : A → Bool) (xs : List A) → Each (λ x. test x ≡ true) xs → every test xs ≡ true
unfolding every
each_every test [] p = refl
each_every test (x ∷ xs) p = rw (p x (Memᴰ.head refl)) (each_every test xs (λ y d. p y (Memᴰ.tail d)))

pub every_append {ℓ} : {A : Type ℓ} (test : A → Bool) (xs ys : List A) → every test (xs ++ ys) ≡ (every test xs && every test ys)
unfolding every
every_append test [] ys = refl
every_append test (x ∷ xs) ys = rw (every_append test xs ys, and_assoc)

pub every_flat : {A B : Type 0} (test : B → Bool) (f : A → List B) (xs : List A) → every test (flat_map f xs) ≡ every (λ (x : A). every test (f x)) xs
unfolding every flat_map
every_flat test f [] = refl
every_flat test f (x ∷ xs) = every_append test (f x) (flat_map f xs) ∙ rw (every_flat test f xs)

pub rising_snoc : (xs : List ℕ) (a b : ℕ) → rising (xs ++ a ∷ b ∷ []) ≡ (rising (xs ++ a ∷ []) && ltb a b)
unfolding rising
rising_snoc [] a b = and-true (ltb a b)
rising_snoc (x ∷ []) a b = simp and-true
rising_snoc (x ∷ y ∷ xs) a b = rw (rising_snoc (y ∷ xs) a b, and_assoc)

-- 5: the table has its length, and every seat's key the types 6 and 4
pub table_right : (n : ℕ) (keys : List ℕ)
    → (wrong_keys n keys ≡ false) ↔ ((length keys ≡ key_at n) × ((seat : ℕ) → seat < n → (word_at keys (key_at seat) ≡ 6) × (word_at keys (key_at seat + 4) ≡ 4)))
unfolding wrong_keys keys_allowed key_allowed
table_right n keys = (
  λ e.
      let two = both_false (not (eqb (length keys) (key_at n))) (not (keys_allowed n keys)) e in (
        eqb-true (length keys) (key_at n) (not-false _ two.0),
        λ seat l.
            let types = both_true (eqb (word_at keys (key_at seat)) 6) (eqb (word_at keys (key_at seat + 4)) 4) (each_at _ seat n l (not-false _ two.1)) in
            (eqb-true _ 6 types.0, eqb-true _ 4 types.1),
      ),
  λ right.
      let allowed = each_all (λ (seat : ℕ). key_allowed seat keys) n (λ seat l. rw (eq-eqb _ 6 (right.1 seat l).0, eq-eqb _ 4 (right.1 seat l).1)) in
      rw (eq-eqb (length keys) (key_at n) right.0, allowed),
)
