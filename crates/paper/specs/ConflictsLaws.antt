-- Conflicts in a list: a pair is found exactly where two members conflict, and it is the first member with the first that conflicts
-- with it.
-- Assumes nothing.
use Rattle.std.specs.Prelude.{ℕ, Bool, ◌≢◌}
use Rattle.std.proofs.Math.Path.{◌≡◌, refl, sym, subst}
use Rattle.std.proofs.Common.{ap, ◌∙◌, ⊎_elim}
use Rattle.std.proofs.Math.Bool.{true, false, cond, true≢false}
use mathlib.Core.List.Memᴰ
use mathlib.Core.List.{List, [], ◌∷◌, ◌++◌, Memᴰ}
use Rattle.std.proofs.Math.Option.{Option, none, some}
use Rattle.octets.specs.Strings.{same}
use Rattle.octets.specs.StringsLaws.{same_refl, same_true, same_false}
use Rattle.round.specs.Round.{Each}
use Rattle.reading.specs.ListsLaws.{each_nil, each_cons}
use Rattle.paper.specs.Machine.{is_some, other, pair_or, conflict}

pub same_sym : (v w : List ℕ) → same v w ≡ same w v
same_sym v w = go (same v w) refl
  where
    go : (b : Bool) → same v w ≡ b → same v w ≡ same w v
    go true e = let p = same_true v w e in rw p refl
    go false e = e ∙ sym (same_false w v (λ p. true≢false (sym (same_refl w) ∙ subst (λ (u : List ℕ). same u w ≡ false) (sym p) e)))

pub some_none {ℓ} : {A : Type ℓ} (a : A) (o : Option A) → o ≡ some a → o ≡ none → ⊥
unfolding is_some
some_none a o p q = true≢false (sym (ap is_some p) ∙ ap is_some q)

module _ {A : Type 0} (value_of : A → List ℕ) where
  -- where none conflicts with a value, all have that value
  pub other_none : (v : List ℕ) (xs : List A) → other value_of v xs ≡ none → Each (λ x. value_of x ≡ v) xs
  unfolding other
  other_none v [] e = each_nil (λ x. value_of x ≡ v)
  other_none v (x ∷ xs) e = go (same v (value_of x)) refl e (λ p. other_none v xs p)
    where
      go : (b : Bool) → same v (value_of x) ≡ b → cond b (other value_of v xs) (some x) ≡ none → (other value_of v xs ≡ none → Each (λ y. value_of y ≡ v) xs) → Each (λ y. value_of y ≡ v) (x ∷ xs)
      go true q p rest = each_cons (λ y. value_of y ≡ v) x xs (sym (same_true v (value_of x) q)) (rest p)
      go false q p rest = absurd (some_none x (some x) refl p)

  pub other_all : (v : List ℕ) (xs : List A) → Each (λ x. same v (value_of x) ≡ true) xs → other value_of v xs ≡ none
  unfolding other
  other_all v [] h = refl
  other_all v (x ∷ xs) h = rw (h x (Memᴰ.head refl)) (other_all v xs (λ y d. h y (Memᴰ.tail d)))

  -- a list with one more member at the end
  pub other-more : (v : List ℕ) (xs : List A) (y : A) → other value_of v xs ≡ none → other value_of v (xs ++ y ∷ []) ≡ cond (same v (value_of y)) none (some y)
  unfolding other
  other-more v [] y e = refl
  other-more v (x ∷ xs) y e = go (same v (value_of x)) e (λ p. other-more v xs y p)
    where
      go : (b : Bool) → cond b (other value_of v xs) (some x) ≡ none → (other value_of v xs ≡ none → other value_of v (xs ++ y ∷ []) ≡ cond (same v (value_of y)) none (some y))
          → cond b (other value_of v (xs ++ y ∷ [])) (some x) ≡ cond (same v (value_of y)) none (some y)
      go true p rest = rest p
      go false p rest = absurd (some_none x (some x) refl p)

  pub other-still : (v : List ℕ) (xs : List A) (y z : A) → other value_of v xs ≡ some z → other value_of v (xs ++ y ∷ []) ≡ some z
  unfolding other
  other-still v [] y z e = absurd (some_none z none e refl)
  other-still v (x ∷ xs) y z e = go (same v (value_of x)) e (λ p. other-still v xs y z p)
    where
      go : (b : Bool) → cond b (other value_of v xs) (some x) ≡ some z → (other value_of v xs ≡ some z → other value_of v (xs ++ y ∷ []) ≡ some z) → cond b (other value_of v (xs ++ y ∷ [])) (some x) ≡ some z
      go true p rest = rest p
      go false p rest = p

  -- where all have one value, no two conflict
  conflict_none : (v : List ℕ) (xs : List A) → other value_of v xs ≡ none → conflict value_of xs ≡ none
  unfolding conflict other pair_or
  conflict_none v [] e = refl
  conflict_none v (x ∷ xs) e = go (same v (value_of x)) refl e (λ p. conflict_none v xs p)
    where
      go : (b : Bool) → same v (value_of x) ≡ b → cond b (other value_of v xs) (some x) ≡ none → (other value_of v xs ≡ none → conflict value_of xs ≡ none) → pair_or x (other value_of (value_of x) xs) (conflict value_of xs) ≡ none
      go true q p more =
          let same-value = same_true v (value_of x) q in
          let rest : other value_of (value_of x) xs ≡ none = subst (λ (u : List ℕ). other value_of u xs ≡ none) same-value p in
          rw rest (more p)
      go false q p more = absurd (some_none x (some x) refl p)

  -- the first two that conflict are the first of the list and the first that conflicts with it
  pub conflict-head : (x : A) (xs : List A) → conflict value_of (x ∷ xs) ≡ pair_or x (other value_of (value_of x) xs) none
  unfolding conflict pair_or
  conflict-head x xs = go (other value_of (value_of x) xs) refl
    where
      go : (o : Option A) → other value_of (value_of x) xs ≡ o → pair_or x o (conflict value_of xs) ≡ pair_or x o none
      go none e = conflict_none (value_of x) xs e
      go (some y) e = refl

  pub head_none : (x : A) (xs : List A) → conflict value_of (x ∷ xs) ≡ none → other value_of (value_of x) xs ≡ none
  unfolding pair_or
  head_none x xs e = go (other value_of (value_of x) xs) (sym (conflict-head x xs) ∙ e)
    where
      go : (o : Option A) → pair_or x o none ≡ none → o ≡ none
      go none p = refl
      go (some y) p = absurd (some_none (x, y) (some (x, y)) refl p)

  -- where no pair is found, any two members have the same value
  pub conflict-any : (xs : List A) → conflict value_of xs ≡ none → (x y : A) → Memᴰ x xs → Memᴰ y xs → value_of x ≡ value_of y
  conflict-any [] e x y d f = absurd (Memᴰ.not-nil d)
  conflict-any (z ∷ xs) e x y d f = of x d ∙ sym (of y f)
    where
      of : (w : A) → Memᴰ w (z ∷ xs) → value_of w ≡ value_of z
      of w m = ⊎_elim (λ q. ap value_of q) (λ t. other_none (value_of z) xs (head_none z xs e) w t) (Memᴰ.cases_cons m)

  -- where a pair is found, the two are members and conflict
  other-found : (v : List ℕ) (xs : List A) (y : A) → other value_of v xs ≡ some y → Memᴰ y xs × (v ≢ value_of y)
  unfolding other
  other-found v [] y e = absurd (some_none y none e refl)
  other-found v (x ∷ xs) y e = go (same v (value_of x)) refl e (λ p. other-found v xs y p)
    where
      go : (b : Bool) → same v (value_of x) ≡ b → cond b (other value_of v xs) (some x) ≡ some y → (other value_of v xs ≡ some y → Memᴰ y xs × (v ≢ value_of y)) → Memᴰ y (x ∷ xs) × (v ≢ value_of y)
      go true q p rest = let r = rest p in (Memᴰ.tail r.0, r.1)
      go false q p rest =
          let is : x ≡ y = cc in
          (Memᴰ.head (sym is), λ h. true≢false (sym (same_refl v) ∙ subst (λ (u : List ℕ). same v u ≡ false) (ap value_of is ∙ sym h) q))

  pub conflict-found : (xs : List A) (p : A × A) → conflict value_of xs ≡ some p → Memᴰ p.0 xs × Memᴰ p.1 xs × (value_of p.0 ≢ value_of p.1)
  unfolding conflict pair_or
  conflict-found [] p e = absurd (some_none p none e refl)
  conflict-found (x ∷ xs) p e = go (other value_of (value_of x) xs) refl (sym (conflict-head x xs) ∙ e)
    where
      go : (o : Option A) → other value_of (value_of x) xs ≡ o → pair_or x o none ≡ some p → Memᴰ p.0 (x ∷ xs) × Memᴰ p.1 (x ∷ xs) × (value_of p.0 ≢ value_of p.1)
      go none q h = absurd (some_none p none h refl)
      go (some y) q h =
          let is : ◌≡◌ {A = A × A} (x, y) p = cc in
          let r = other-found (value_of x) xs y q in
          subst (λ (w : A × A). Memᴰ w.0 (x ∷ xs) × Memᴰ w.1 (x ∷ xs) × (value_of w.0 ≢ value_of w.1)) is
          (Memᴰ.head refl, Memᴰ.tail r.0, r.1)
