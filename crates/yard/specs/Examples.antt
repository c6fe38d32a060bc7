-- Inputs with their output, computed.
-- Assumes nothing.
use Rattle.std.specs.Prelude.{ℕ, ◌+◌, ◌≡◌, refl, Bool, List, [], ◌∷◌, ◌++◌, replicate}
use Rattle.protocol.specs.Message.{Notice, render}
use Rattle.protocol.specs.Signatures.{checks}
use Rattle.trials.specs.Toy.{unfolded, toy, layout, sign, keys, submit_by}
use Rattle.yard.specs.Line.{decimal_in, decimal, line}
use Rattle.yard.specs.Commands.{line_for, opening_length, misframed_opening, opened, yard_store, yard_out, begun, call_length, misframed_call, called}
use Rattle.yard.specs.Yard.{printed, yard}

-- every definition of the yard, open
unfoldable unfolded_yard : Bool
unfolding unfolded decimal_in decimal line line_for opening_length misframed_opening opened yard_store yard_out begun call_length misframed_call called printed yard
unfolded_yard = unfolded

-- a number of one digit, a space, `0` and newline
abbrev short : ℕ → List ℕ
short number = (48 + number) ∷ 32 ∷ 48 ∷ 10 ∷ []

-- an opening of n seats
abbrev opening_of : ℕ → ℕ → ℕ → List ℕ
opening_of n seat round = 0x10 ∷ n ∷ seat ∷ 0 ∷ round ∷ keys n

-- "Input: opening with n 1, seat 0, round 5, a key with types 6 and 4 and zeros after; then 0x11 with length 0; then end.
-- Output, whole: `0 0` and `9 0`, one to a line."
document_01 : yard checks (opening_of 1 0 5 ++ 0x11 ∷ 0 ∷ 0 ∷ []) ≡ short 0 ++ short 9
unfolding unfolded_yard
document_01 = refl

-- "n above 7 prints `1 0`, and n = 0 too; both need no keys. A refused opening ends it"
eight-seats : yard checks (0x10 ∷ 8 ∷ 0 ∷ 0 ∷ 5 ∷ 0x11 ∷ 0 ∷ 0 ∷ []) ≡ short 1
unfolding unfolded_yard
eight-seats = refl

no_seats : yard checks (0x10 ∷ 0 ∷ 0 ∷ 0 ∷ 5 ∷ []) ≡ short 1
unfolding unfolded_yard
no_seats = refl

-- a seat out of range is refused once the keys are there
no_such_seat : yard checks (opening_of 1 1 5) ≡ short 2
unfolding unfolded_yard
no_such_seat = refl

-- "empty input prints nothing"
empty : yard checks [] ≡ []
unfolding unfolded_yard
empty = refl

-- "An unknown command, a short operand, a first command other than 0x10 or a second 0x10 prints `9 0` and ends it."
unknown : yard checks (opening_of 1 0 5 ++ 0x13 ∷ 0x11 ∷ 0 ∷ 0 ∷ []) ≡ short 0 ++ short 9
unfolding unfolded_yard
unknown = refl

short-keys : yard checks (0x10 ∷ 1 ∷ 0 ∷ 0 ∷ 5 ∷ replicate 55 0) ≡ short 9
unfolding unfolded_yard
short-keys = refl

short-round : yard checks (0x10 ∷ 8 ∷ 0 ∷ 0 ∷ []) ≡ short 9
unfolding unfolded_yard
short-round = refl

short-message : yard checks (opening_of 1 0 5 ++ 0x11 ∷ 0 ∷ 2 ∷ 2 ∷ []) ≡ short 0 ++ short 9
unfolding unfolded_yard
short-message = refl

another_first : yard checks (0x11 ∷ 0 ∷ 0 ∷ []) ≡ short 9
unfolding unfolded_yard
another_first = refl

second-opening : yard checks (opening_of 1 0 5 ++ opening_of 1 0 5) ≡ short 0 ++ short 9
unfolding unfolded_yard
second-opening = refl

-- `0`, a space, `1524` and newline: SUBMIT and NOTICE
abbrev submit_and_notice : List ℕ
submit_and_notice = 48 ∷ 32 ∷ 49 ∷ 53 ∷ 50 ∷ 52 ∷ 10 ∷ []

-- the program goes on after a refused call; a unit alone confirms in its submit
confirmed : yard (λ table round. toy) (opening_of 1 0 5 ++ 0x11 ∷ 0 ∷ 0 ∷ [] ++ 0x12 ∷ layout 7 ++ sign 0 7 ++ 0x11 ∷ 0 ∷ 36 ∷ render (Notice 5 0 (layout 7)))
    ≡ short 0 ++ short 9 ++ submit_and_notice ++ short 0
unfolding unfolded_yard
confirmed = refl

-- "A SUBMIT heard before the own submit is now checked, and the first good one from each seat is kept with its value." (document 02,
-- item 1): with it a unit of two confirms in its submit
kept : yard (λ table round. toy) (opening_of 2 0 5 ++ 0x11 ∷ 5 ∷ 208 ∷ render (submit_by 1 7) ++ 0x12 ∷ layout 7 ++ sign 0 7)
    ≡ short 0 ++ short 0 ++ submit_and_notice
unfolding unfolded_yard
kept = refl
