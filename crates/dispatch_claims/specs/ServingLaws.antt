-- Laws of an order of serving, longest ago first: how many lanes were served since one of them was, and what a lane served changes in that.
-- Assumes nothing.
use Rattle.std.specs.Prelude.{ℕ, suc, ◌≤◌, ◌<◌, ◌≡◌, refl, Bool, true, false, cond, ◌≢◌, ltb, eqb}
use Rattle.std.proofs.Common.{sym, ◌∙◌, arith, eqb-true, eq-eqb, ne_eqb, lt-ltb, le-ltb}
use Rattle.std.proofs.Math.Path.{ap}
use Rattle.std.proofs.Math.Bool.{or_comm}
use Rattle.std.proofs.lemmas.Bool.{false≢true}
use mathlib.Core.List.{List, [], ◌∷◌, ◌++◌, append-nil, reverse, reverse-cons, reverse-append}
use Rattle.std.proofs.Math.Dec.{leb-suc-suc}
use Rattle.std.proofs.Math.ListN.{length, length-reverse}
use Rattle.refusal.specs.Order.{is_in}
use Rattle.refusal.specs.RefusalLaws.{both_false}
use Rattle.dispatch.specs.Dispatcher.{index_of}
use Rattle.dispatch.specs.Turns.{unless, without, served_last}
use Rattle.dispatch_claims.specs.ListLaws.{by, is_in_snoc, without_snoc, index_of-found, index_of-absent}

-- ---- where a number stands in a list

index_of_snoc : (x : ℕ) (xs : List ℕ) (y : ℕ) → is_in x xs ≡ true → index_of x (xs ++ (y ∷ [])) ≡ index_of x xs
unfolding is_in index_of
index_of_snoc x [] y e = absurd (false≢true e)
index_of_snoc x (z ∷ xs) y e = by (eqb z x) (λ f. rw f) (λ f. rw (f, index_of_snoc x xs y (rw f at e)))

index_of_last : (x : ℕ) (xs : List ℕ) → is_in x xs ≡ false → index_of x (xs ++ (x ∷ [])) ≡ length xs
unfolding is_in index_of
index_of_last x [] e = rw (eq-eqb x x refl)
index_of_last x (y ∷ xs) e =
    let two = both_false (eqb y x) (is_in x xs) e in
    rw (two.0, index_of_last x xs two.1)

index_of-others : (x : ℕ) (xs : List ℕ) → index_of x xs ≤ length (without x xs)
unfolding index_of without unless
index_of-others x [] = omega arith
index_of-others x (y ∷ xs) = by (eqb y x) (λ e. rw e (omega arith)) (λ e. rw e (omega (arith, index_of-others x xs)))

-- two places in a list are in the order of two in another, once each list has one number more in front; b and c: it is the number looked for
pub same_order : (b c : Bool) (i j k l : ℕ) → (b ≡ false → c ≡ false → ltb i j ≡ ltb k l)
    → ltb (cond b 0 (suc i)) (cond c 0 (suc j)) ≡ ltb (cond b 0 (suc k)) (cond c 0 (suc l))
same_order true true i j k l e = refl
same_order true false i j k l e = lt-ltb 0 (suc j) (omega arith) ∙ sym (lt-ltb 0 (suc l) (omega arith))
same_order false true i j k l e = le-ltb (suc i) 0 (omega arith) ∙ sym (le-ltb (suc k) 0 (omega arith))
same_order false false i j k l e = leb-suc-suc (suc i) j ∙ e refl refl ∙ sym (leb-suc-suc (suc k) l)

-- of two numbers the same stands first once another is taken out
index_of_without : (x y z : ℕ) (xs : List ℕ) → x ≢ z → y ≢ z
    → ltb (index_of x (without z xs)) (index_of y (without z xs)) ≡ ltb (index_of x xs) (index_of y xs)
unfolding index_of without unless
index_of_without x y z [] f g = refl
index_of_without x y z (w ∷ xs) f g =
    let rest = index_of_without x y z xs f g in
    let others = without z xs in
    by (eqb w z)
    (λ e.
    rw (e, ne_eqb w x (λ p. f (sym p ∙ eqb-true w z e)), ne_eqb w y (λ p. g (sym p ∙ eqb-true w z e)))
    (rest ∙ sym (leb-suc-suc (suc (index_of x xs)) (index_of y xs))))
    (λ e. rw e (same_order (eqb w x) (eqb w y) (index_of x others) (index_of y others) (index_of x xs) (index_of y xs) (λ _ _. rest)))

-- a number that stands before the one taken out, or is as absent, stands where it stood
index_of_without_later : (x z : ℕ) (xs : List ℕ) → x ≢ z → index_of x xs ≤ index_of z xs → index_of x xs ≤ index_of x (without z xs)
unfolding index_of without unless
index_of_without_later x z [] f h = omega arith
index_of_without_later x z (w ∷ xs) f h =
    by (eqb w z)
    (λ e. absurd (omega (arith, rw (e, ne_eqb w x (λ p. f (sym p ∙ eqb-true w z e))) at h)))
    (λ e.
    rw e
    (by (eqb w x)
    (λ g. rw g (omega arith))
    (λ g. rw g (omega (arith, index_of_without_later x z xs f (omega (arith, rw (e, g) at h)))))))

-- ---- a list from its end

is_in-reverse : (x : ℕ) (xs : List ℕ) → is_in x (reverse xs) ≡ is_in x xs
unfolding is_in
is_in-reverse x [] = refl
is_in-reverse x (y ∷ xs) = rw (reverse-cons y xs, is_in_snoc x (reverse xs) y, is_in-reverse x xs) (or_comm (is_in x xs) (eqb y x))

reverse_without : (x : ℕ) (xs : List ℕ) → reverse (without x xs) ≡ without x (reverse xs)
unfolding without unless
reverse_without x [] = refl
reverse_without x (y ∷ xs) = rw (reverse-cons y xs, without_snoc x (reverse xs) y, ← reverse_without x xs) (go (eqb y x))
  where
    go : (b : Bool) → reverse (cond b (without x xs) (y ∷ without x xs)) ≡ reverse (without x xs) ++ cond b [] (y ∷ [])
    go true = sym (append-nil (reverse (without x xs)))
    go false = reverse-cons y (without x xs)

-- ---- lanes served since a lane was

-- how many stand after a lane in an order of serving; all where it doesn't name the lane
unfoldable pub since : ℕ → List ℕ → ℕ
since l order = index_of l (reverse order)

module _ (l : ℕ) (order : List ℕ) where
  pub since-absent : is_in l order ≡ false → since l order ≡ length order
  unfolding since
  since-absent e = index_of-absent l (reverse order) (is_in-reverse l order ∙ e) ∙ length-reverse order

  pub since-found : is_in l order ≡ true → since l order < length order
  unfolding since
  since-found e = omega (arith, (index_of-found l (reverse order) (is_in-reverse l order ∙ e)).0, length-reverse order)

  pub since_at_most_all : since l order ≤ length order
  since_at_most_all = by (is_in l order) (λ e. omega (arith, since-found e)) (λ e. omega (arith, since-absent e))

  pub since_at_most_others : since l order ≤ length (without l order)
  unfolding since
  since_at_most_others =
      omega (arith, index_of-others l (reverse order), length-reverse (without l order), ap length (reverse_without l order))

  -- of the lane in front
  pub since_first : is_in l order ≡ false → since l (l ∷ order) ≡ length order
  unfolding since
  since_first e = rw (reverse-cons l order) (index_of_last l (reverse order) (is_in-reverse l order ∙ e) ∙ length-reverse order)

-- a lane in front counts for none of those behind it
pub since_behind : (l m : ℕ) (order : List ℕ) → is_in l order ≡ true → since l (m ∷ order) ≡ since l order
unfolding since
since_behind l m order e = rw (reverse-cons m order) (index_of_snoc l (reverse order) m (is_in-reverse l order ∙ e))

-- two lanes of an order with as many served since are one lane
pub since_same : (l m : ℕ) (order : List ℕ) → is_in l order ≡ true → is_in m order ≡ true → since l order ≡ since m order → l ≡ m
unfolding since
since_same l m order e f same =
    let at-l = (index_of-found l (reverse order) (is_in-reverse l order ∙ e)).1 in
    let at-m = (index_of-found m (reverse order) (is_in-reverse m order ∙ f)).1 in
    sym at-l ∙ rw same at-m

-- ---- once a lane is served

pub since_served : (l m : ℕ) (order : List ℕ) → since l (served_last m order) ≡ cond (eqb m l) 0 (suc (since l (without m order)))
unfolding since served_last index_of
since_served l m order = rw (reverse-append (without m order) (m ∷ []))

-- of two other lanes the same was served longer ago
pub since_without : (l k m : ℕ) (order : List ℕ) → l ≢ m → k ≢ m
    → ltb (since l (without m order)) (since k (without m order)) ≡ ltb (since l order) (since k order)
unfolding since
since_without l k m order f g = rw (reverse_without m order) (index_of_without l k m (reverse order) f g)

-- where another lane is served that was served as long ago or longer, one lane more was served since
pub since-grows : (l m : ℕ) (order : List ℕ) → l ≢ m → since l order ≤ since m order → since l order < since l (served_last m order)
unfolding since
since-grows l m order f h =
    rw (since_served l m order, ne_eqb m l (λ p. f (sym p)), reverse_without m order)
    (omega (arith, index_of_without_later l m (reverse order) f h))
