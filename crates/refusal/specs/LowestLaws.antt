-- In an order whose numbers rise, the first number whose condition holds is the lowest.
use Rattle.std.specs.Prelude.{◌≡◌, refl, Bool, true, false, cond, List, [], ◌∷◌, ℕ, ◌≤◌, ◌<◌, ltb, eqb}
use Rattle.std.proofs.lemmas.Bool.{false≢true}
use Rattle.std.proofs.Common.{inl, inr, arith, eqb-true, ltb-true, lt-ltb}
use Rattle.refusal.specs.Refusal.{first_of, numbers}
use Rattle.refusal.specs.RefusalLaws.{both_true}
use Rattle.refusal.specs.Order.{follows}
use Rattle.refusal.specs.Lowest.{rise_from, rise, Holds, Lowest}

rises : (m n : ℕ) (rest : List ℕ) → rise_from m (n ∷ rest) ≡ true → (m < n) × (rise_from n rest ≡ true)
unfolding rise_from
rises m n rest e = let p = both_true (ltb m n) (rise_from n rest) e in (ltb-true m n p.0, p.1)

-- in a list that rises from m, every number whose condition holds is above m
above : (m : ℕ) (xs : List (ℕ × Bool)) → rise_from m (numbers xs) ≡ true → (n : ℕ) → Holds n xs → m < n
unfolding numbers Holds
above m (c ∷ xs) e n (inl h) = omega (arith, (rises m c.0 (numbers xs) e).0, h.0)
above m (c ∷ xs) e n (inr h) =
    let p = rises m c.0 (numbers xs) e in
    omega (arith, p.0, above c.0 xs p.1 n h)
above m [] e n x'' = elim x'' [ ]

first_holds : (m n : ℕ) (xs : List (ℕ × Bool)) → rise_from m (numbers ((n, true) ∷ xs)) ≡ true → Lowest n ((n, true) ∷ xs)
unfolding numbers Holds
first_holds m n xs e =
    let p = rises m n (numbers xs) e in
    record { holds = λ h. inl (refl, refl); least = least; none = λ z k h. omega (arith, p.0) }
  where
    least : (k : ℕ) → Holds k ((n, true) ∷ xs) → n ≤ k
    least k (inl h) = omega (arith, h.0)
    least k (inr h) = omega (arith, above n xs (rises m n (numbers xs) e).1 k h)

first_passed : (n l : ℕ) (xs : List (ℕ × Bool)) → Lowest l xs → Lowest l ((n, false) ∷ xs)
unfolding Holds
first_passed n l xs rest =
    record { holds = λ h. inr (rest.holds h); least = λ k h. rest.least k (later k h); none = λ z k h. rest.none z k (later k h) }
  where
    later : (k : ℕ) → Holds k ((n, false) ∷ xs) → Holds k xs
    later k (inl h) = absurd (false≢true h.1)
    later k (inr h) = h

from : (m : ℕ) (xs : List (ℕ × Bool)) → rise_from m (numbers xs) ≡ true → Lowest (first_of xs) xs
unfolding numbers Holds first_of
from m [] e = record { holds = λ h. absurd (h refl); least = λ n h. absurd h; none = λ z n h. h }
from m ((n, true) ∷ xs) e = first_holds m n xs e
from m ((n, false) ∷ xs) e = first_passed n (first_of xs) xs (from n xs (rises m n (numbers xs) e).1)

pub first_of-lowest : (xs : List (ℕ × Bool)) → rise (numbers xs) ≡ true → Lowest (first_of xs) xs
unfolding rise
first_of-lowest xs e = from 0 xs e

-- in an order whose numbers rise, so do those of a list that follows it
rise_after : (m : ℕ) (order ns : List ℕ) → rise_from m order ≡ true → follows order ns ≡ true → rise_from m ns ≡ true
unfolding rise_from follows
rise_after m order [] r f = refl
rise_after m [] (n ∷ ns) r f = absurd (false≢true f)
rise_after m (o ∷ order) (n ∷ ns) r f =
    let p = rises m o order r in
    go p.0 (λ g. rise_after o order ns p.1 g) (λ g. rise_after o order (n ∷ ns) p.1 g) (eqb o n) refl f
  where
    go : m < o → (follows order ns ≡ true → rise_from o ns ≡ true) → (follows order (n ∷ ns) ≡ true → rise_from o (n ∷ ns) ≡ true)
        → (same : Bool) → eqb o n ≡ same → cond same (follows order ns) (follows order (n ∷ ns)) ≡ true → rise_from m (n ∷ ns) ≡ true
    go l at later true e g = rw (← eqb-true o n e, lt-ltb m o l) (at g)
    go l at later false e g =
        let p = rises o n ns (later g) in
        rw (lt-ltb m n (omega (arith, p.0))) p.1

pub rise_in : (order ns : List ℕ) → rise order ≡ true → follows order ns ≡ true → rise ns ≡ true
unfolding rise
rise_in order ns r f = rise_after 0 order ns r f
