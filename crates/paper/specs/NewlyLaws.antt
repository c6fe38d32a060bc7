-- The seats that two certificates show, less those detected before.
-- Assumes nothing.
use Rattle.std.specs.Prelude.{ℕ, ◌≡◌, Bool, cond, ◌&&◌, ◌||◌, List, [], ◌∷◌, ◌++◌, eqb}
use Rattle.std.proofs.Math.Path.{refl, ap}
use Rattle.std.proofs.Common.{sym, subst, ◌∙◌, true≢false, eq-eqb, eqb-true}
use Rattle.std.proofs.Math.Bool.{true, false, not, and-false}
use Rattle.std.proofs.Math.Logic.{⊎_elim}
use Rattle.std.proofs.lemmas.Bool.{not-false}
use Rattle.protocol.specs.Message.{Entry}
use Rattle.octets.specs.Strings.{same}
use Rattle.reading.specs.ListsLaws.{and_false-either}
use Rattle.paper.specs.Machine.{FullCertificate, is_from, is_in, is_empty, newly, shows_more}

-- ---- members of a list

pub in_append : (s : ℕ) (xs ys : List ℕ) → is_in s (xs ++ ys) ≡ (is_in s xs || is_in s ys)
unfolding is_in
in_append s [] ys = refl
in_append s (x ∷ xs) ys = rw (in_append s xs ys) (go (eqb x s))
  where
    go : (b : Bool) → (b || (is_in s xs || is_in s ys)) ≡ ((b || is_in s xs) || is_in s ys)
    go true = refl
    go false = refl

empty_of_none : (xs : List ℕ) → ((s : ℕ) → is_in s xs ≡ false) → is_empty xs ≡ true
unfolding is_empty is_in
empty_of_none [] h = refl
empty_of_none (x ∷ xs) h = absurd (true≢false (rw (← h x, eq-eqb x x refl)))

in_empty : (s : ℕ) (xs : List ℕ) → is_empty xs ≡ true → is_in s xs ≡ false
unfolding is_empty is_in
in_empty s [] e = refl
in_empty s (x ∷ xs) e = absurd (true≢false (sym e))

-- ---- the seats newly shown

-- those of both certificates that aren't among the ones detected
pub newly_is : (s : ℕ) (detected : List ℕ) (es ds : List Entry) → is_in s (newly detected es ds) ≡ (is_from s es && (is_from s ds && not (is_in s detected)))
unfolding newly is_from is_in
newly_is s detected [] ds = refl
newly_is s detected (e ∷ es) ds = go (eqb e.seat s) refl (is_from e.seat ds && not (is_in e.seat detected)) refl (newly_is s detected es ds)
  where
    rest : List ℕ
    rest = newly detected es ds

    wanted : Bool
    wanted = is_from s ds && not (is_in s detected)

    here : (w : Bool) → eqb e.seat s ≡ true → (is_from e.seat ds && not (is_in e.seat detected)) ≡ w → wanted ≡ w
    here w p q = subst (λ (t : ℕ). (is_from t ds && not (is_in t detected)) ≡ w) (eqb-true e.seat s p) q

    go : (b : Bool) → eqb e.seat s ≡ b → (w : Bool) → (is_from e.seat ds && not (is_in e.seat detected)) ≡ w → is_in s rest ≡ (is_from s es && wanted)
        → is_in s (cond w (e.seat ∷ rest) rest) ≡ ((b || is_from s es) && wanted)
    go true p true q r = ap (λ (b : Bool). b || is_in s rest) p ∙ sym (here true p q)
    go true p false q r = r ∙ ap (λ (b : Bool). is_from s es && b) (here false p q) ∙ and-false (is_from s es) ∙ sym (here false p q)
    go false p true q r = ap (λ (b : Bool). b || is_in s rest) p ∙ r
    go false p false q r = r

module _ (c d : FullCertificate) where
  -- a seat of both that isn't among those detected
  abbrev Shown : Bool → ℕ → Bool
  Shown known s = is_from s c.entries && (is_from s d.entries && not known)

  shows_none : (detected : List ℕ) → ((s : ℕ) → Shown (is_in s detected) s ≡ false) → shows_more detected c d ≡ false
  unfolding shows_more
  shows_none detected h =
      rw (empty_of_none (newly detected c.entries d.entries) (λ s. newly_is s detected c.entries d.entries ∙ h s))
      (and-false (not (same c.value d.value)))

  -- once they are detected, the two certificates show no more
  pub shows_no_more : (detected : List ℕ) → shows_more (detected ++ newly detected c.entries d.entries) c d ≡ false
  shows_no_more detected =
      let found = newly detected c.entries d.entries in
      shows_none (detected ++ found)
      (λ s.
      ap (λ (b : Bool). Shown b s) (in_append s detected found ∙ ap (λ (b : Bool). is_in s detected || b) (newly_is s detected c.entries d.entries))
      ∙ go (is_from s c.entries) (is_from s d.entries) (is_in s detected))
    where
      go : (a b q : Bool) → (a && (b && not (q || (a && (b && not q))))) ≡ false
      go true true true = refl
      go true true false = refl
      go true false q = refl
      go false b q = refl

  -- nor do they where more is detected
  pub still_no_more : (detected more : List ℕ) → shows_more detected c d ≡ false → shows_more (detected ++ more) c d ≡ false
  unfolding shows_more
  still_no_more detected more h =
      let found = newly detected c.entries d.entries in
      ⊎_elim (λ e. ap (λ (b : Bool). b && not (is_empty (newly (detected ++ more) c.entries d.entries))) e)
      (λ e. shows_none (detected ++ more)
      (λ s.
      ap (λ (b : Bool). Shown b s) (in_append s detected more)
      ∙ go (is_from s c.entries) (is_from s d.entries) (is_in s detected) (is_in s more)
      (sym (newly_is s detected c.entries d.entries) ∙ in_empty s found (not-false (is_empty found) e))))
      (and_false-either (not (same c.value d.value)) (not (is_empty found)) h)
    where
      go : (a b q r : Bool) → (a && (b && not q)) ≡ false → (a && (b && not (q || r))) ≡ false
      go true true true r h = refl
      go true true false r h = absurd (true≢false h)
      go true false q r h = refl
      go false b q r h = refl
