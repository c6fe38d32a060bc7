-- What an iterator answers and one turn of each loop, over plain values.
-- Assumes nothing.
use Rattle.std.specs.Prelude.{ℕ, suc, ◌+◌, ◌-◌, ◌≤◌, ◌<◌, ◌≡◌, refl, true, List, [], ◌∷◌, ◌++◌, ltb, eqb, length, take, drop, get_or, set}
use Rattle.std.specs.List.{list_any}
use Rattle.std.proofs.Common.{ap, ◌∙◌, append-nil, arith, drop_of_length-le, drop-cons, length-drop, take_all}
use Rattle.std.proofs.Math.Bool.{false}
use Rattle.std.proofs.Math.Numerals.{add-one}
use Rattle.std.proofs.Math.ListN.{length-append}
use Rattle.std.proofs.Math.Seq.{take-suc, set-append_seam, append_snoc}
use borrow.Author.Tests.{eq-eqb, ne_eqb}
use Rattle.refusal.specs.Order.{is_in, distinct}
use Rattle.dispatch.specs.Dispatcher.{index_of, some_above}
use Rattle.dispatch.specs.Turns.{unless, without, served_last}
use Rattle.dispatch_claims.specs.ListLaws.{without_snoc}

-- ---- tests of a list's numbers

pub any-above : (most : ℕ) (xs : List ℕ) → list_any (λ x. ltb most x) xs ≡ some_above most xs
unfolding some_above
any-above most [] = refl
any-above most (x ∷ xs) = rw (any-above most xs)

pub any_in : (x : ℕ) (xs : List ℕ) → list_any (λ y. eqb y x) xs ≡ is_in x xs
unfolding is_in
any_in x [] = refl
any_in x (y ∷ xs) = rw (any_in x xs)

-- the numbers after i, which the code has as a slice up to the list's end
pub any-later : (list : List ℕ) (i x : ℕ) → i < length list → list_any (λ y. eqb y x) (take (length list - (i + 1)) (drop (i + 1) list)) ≡ is_in x (drop (i + 1) list)
any-later list i x h =
    any_in x (take (length list - (i + 1)) (drop (i + 1) list))
    ∙ ap (is_in x) (take_all (length list - (i + 1)) (drop (i + 1) list) (omega (arith, length-drop (i + 1) list)))

-- a number that stands twice, from i on
module _ (list : List ℕ) (i : ℕ) (h : i < length list) where
  pub twice-here : is_in (get_or list i 0) (drop (i + 1) list) ≡ true → distinct (drop i list) ≡ false
  unfolding distinct
  twice-here e = rw (drop-cons list i 0 h, rw add-one at e)

  pub twice-later : is_in (get_or list i 0) (drop (i + 1) list) ≡ false → distinct (drop i list) ≡ distinct (drop (i + 1) list)
  unfolding distinct
  twice-later e = rw (drop-cons list i 0 h, add-one, rw add-one at e)

pub twice_none : (list : List ℕ) (i : ℕ) → length list ≤ i → distinct (drop i list) ≡ true
unfolding distinct
twice_none list i h = rw (drop_of_length-le list h)

-- ---- where a number stands

pub index-here : (x y : ℕ) (ys : List ℕ) → y ≡ x → index_of x (y ∷ ys) ≡ 0
unfolding index_of
index-here x y ys e = rw (eq-eqb y x e)

pub index-later : (x y : ℕ) (ys : List ℕ) → (y ≡ x → ⊥) → index_of x (y ∷ ys) ≡ index_of x ys + 1
unfolding index_of
index-later x y ys d = rw (ne_eqb y x d) (omega arith)

-- ---- an order of serving

-- the numbers ws from the first place on, and those of xs beyond them
unfoldable pub over : List ℕ → List ℕ → List ℕ
over ws xs = ws ++ drop (length ws) xs

pub over_next : (ws xs : List ℕ) (x : ℕ) → length ws < length xs → set (over ws xs) (length ws) x ≡ over (ws ++ (x ∷ [])) xs
unfolding over
over_next ws xs x h =
    rw (drop-cons xs (length ws) 0 h, set-append_seam ws (get_or xs (length ws) 0) (drop (suc (length ws)) xs) x, length-append, append_snoc, add-one)

-- in the loop: the lanes other than one among the first i stand in front, and `at` of them were found
pub record Kept (order : List ℕ) (lane i at : ℕ) (next : List ℕ) : Type 0 where
  pub counted : at ≡ length (without lane (take i order))
  pub before : at ≤ i
  pub stands : next ≡ over (without lane (take i order)) order

pub kept_none : (order : List ℕ) (lane : ℕ) → Kept order lane 0 0 order
unfolding without over
kept_none order lane = record { counted = refl; before = omega arith; stands = refl }

module _ (order : List ℕ) (lane i at : ℕ) (next : List ℕ) (h : i < length order) (k : Kept order lane i at next) where
  pub kept-other : (get_or order i 0 ≡ lane → ⊥) → Kept order lane (i + 1) (at + 1) (set next at (get_or order i 0))
  unfolding unless
  kept-other d = record {
    counted = rw one_more (simp length-append (omega (arith, k.counted)));
    before = omega (arith, k.before);
    stands = rw (one_more, k.stands, k.counted) (over_next (without lane (take i order)) order (get_or order i 0) (omega (arith, k.counted, k.before)));
  }
    where
      one_more : without lane (take (i + 1) order) ≡ without lane (take i order) ++ (get_or order i 0 ∷ [])
      one_more = rw (add-one, take-suc order i 0 h, without_snoc lane (take i order) (get_or order i 0), ne_eqb (get_or order i 0) lane d)

  pub kept_same : get_or order i 0 ≡ lane → Kept order lane (i + 1) at next
  unfolding unless
  kept_same e = record { counted = rw no_more k.counted; before = omega (arith, k.before); stands = rw no_more k.stands }
    where
      no_more : without lane (take (i + 1) order) ≡ without lane (take i order)
      no_more = rw (add-one, take-suc order i 0 h, without_snoc lane (take i order) (get_or order i 0), eq-eqb (get_or order i 0) lane e, append-nil)

-- after it, with the lane itself behind them
module _ (order : List ℕ) (lane i served at : ℕ) (next : List ℕ) (e : i ≡ served) (room : length (without lane (take served order)) < length order) (k : Kept order lane i at next) where
  pub served_count : at + 1 ≡ length (served_last lane (take served order))
  unfolding served_last
  served_count = simp length-append (omega (arith, rw e at k.counted))

  pub served_order : set next at lane ≡ served_last lane (take served order) ++ drop (length (served_last lane (take served order))) order
  unfolding served_last over
  served_order = rw (k.stands, k.counted, e) (over_next (without lane (take served order)) order lane room)
