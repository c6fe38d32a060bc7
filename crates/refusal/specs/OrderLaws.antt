-- Rows that follow a written order of numbers: the first row whose condition holds has the first number of the order that does.
use Rattle.std.specs.Prelude.{◌≡◌, refl, Bool, true, false, cond, not, List, [], ◌∷◌, ℕ, eqb}
use Rattle.std.proofs.Common.{sym, eqb-true, eq-eqb}
use Rattle.std.proofs.lemmas.Bool.{false≢true, not-true}
use Rattle.refusal.specs.Refusal.{first_of, numbers}
use Rattle.refusal.specs.RefusalLaws.{both_true, both_false}
use Rattle.refusal.specs.Order.{is_in, distinct, follows, held, first_in}

none_held : (order : List ℕ) → first_in order (held []) ≡ 0
unfolding first_in held
none_held [] = refl
none_held (n ∷ order) = none_held order

-- a number outside the order is in no list that follows it, and no row with that number holds
absent : (o : ℕ) (order ns : List ℕ) → is_in o order ≡ false → follows order ns ≡ true → is_in o ns ≡ false
unfolding is_in follows
absent o order [] h f = refl
absent o [] (n ∷ ns) h f = absurd (false≢true f)
absent o (p ∷ order) (n ∷ ns) h f =
    let two = both_false (eqb p o) (is_in o order) h in
    go two.0 (λ g. absent o order ns two.1 g) (λ g. absent o order (n ∷ ns) two.1 g) (eqb p n) refl f
  where
    go : eqb p o ≡ false → (follows order ns ≡ true → is_in o ns ≡ false) → (follows order (n ∷ ns) ≡ true → is_in o (n ∷ ns) ≡ false)
        → (same : Bool) → eqb p n ≡ same → cond same (follows order ns) (follows order (n ∷ ns)) ≡ true → is_in o (n ∷ ns) ≡ false
    go d at_p later true e g = rw (← eqb-true p n e, d) (at_p g)
    go d at_p later false e g = later g

unheld : (o : ℕ) (xs : List (ℕ × Bool)) → is_in o (numbers xs) ≡ false → held xs o ≡ false
unfolding is_in numbers held
unheld o [] h = refl
unheld o ((n, true) ∷ xs) h = let two = both_false (eqb n o) (is_in o (numbers xs)) h in rw two.0 (unheld o xs two.1)
unheld o ((n, false) ∷ xs) h = unheld o xs (both_false (eqb n o) (is_in o (numbers xs)) h).1

pub first_of_in_order : (order : List ℕ) (xs : List (ℕ × Bool)) → distinct order ≡ true → follows order (numbers xs) ≡ true → first_of xs ≡ first_in order (held xs)
unfolding distinct follows numbers first_of first_in held
first_of_in_order order [] d f = sym (none_held order)
first_of_in_order [] (x ∷ xs) d f = absurd (false≢true f)
first_of_in_order (o ∷ order) ((n, b) ∷ xs) d f =
    let two = both_true (not (is_in o order)) (distinct order) d in
    go (not-true (is_in o order) two.0) (λ g. first_of_in_order order xs two.1 g) (λ g. first_of_in_order order ((n, b) ∷ xs) two.1 g) (eqb o n) refl f
  where
    at_o : is_in o order ≡ false → (b : Bool) → o ≡ n → follows order (numbers xs) ≡ true → first_of xs ≡ first_in order (held xs)
        → cond b n (first_of xs) ≡ cond (held ((n, b) ∷ xs) o) o (first_in order (held ((n, b) ∷ xs)))
    at_o new true e g rest = rw (← e, eq-eqb o o refl)
    at_o new false e g rest = rw (unheld o xs (absent o order (numbers xs) new g)) rest

    go : is_in o order ≡ false → (follows order (numbers xs) ≡ true → first_of xs ≡ first_in order (held xs))
        → (follows order (n ∷ numbers xs) ≡ true → first_of ((n, b) ∷ xs) ≡ first_in order (held ((n, b) ∷ xs)))
        → (same : Bool) → eqb o n ≡ same → cond same (follows order (numbers xs)) (follows order (n ∷ numbers xs)) ≡ true
        → cond b n (first_of xs) ≡ cond (held ((n, b) ∷ xs) o) o (first_in order (held ((n, b) ∷ xs)))
    go new at later true e g = at_o new b (eqb-true o n e) g (at g)
    go new at later false e g = rw (unheld o ((n, b) ∷ xs) (absent o order (n ∷ numbers xs) new g)) (later g)
