-- The line that the yard's program prints for a call, in ASCII.
-- Assumes nothing.
use Rattle.std.specs.Prelude.{ℕ, zero, suc, ◌+◌, ◌/◌, ◌%◌, ◌≤◌, cond, List, [], ◌∷◌, ◌++◌, ltb, length, replicate}
use Rattle.octets.specs.Octets.{patch}
use Rattle.yard.specs.declared.line.Line.{Line}

-- the digit of a number below ten
abbrev pub digit : ℕ → ℕ
digit x = 48 + x

-- a number in decimal, with no zeros in front; `more` bounds the digits after the first
unfoldable pub decimal_in : ℕ → ℕ → List ℕ
decimal_in zero x = digit x ∷ []
decimal_in (suc more) x = cond (ltb x 10) (digit x ∷ []) (decimal_in more (x / 10) ++ (digit (x % 10) ∷ []))

-- a number x has at most x digits after the first
unfoldable pub decimal : ℕ → List ℕ
decimal x = decimal_in x x

-- "refusal number or 0, a space, bytes written, newline"
unfoldable pub line : ℕ → ℕ → List ℕ
line number written = decimal number ++ (32 ∷ []) ++ decimal written ++ (10 ∷ [])

-- the most bytes in a line of two 32-bit numbers
abbrev pub line_limit : ℕ
line_limit = 22

-- bytes to print, in a space of that length with zeros after them, and their number
unfoldable pub in_space : List ℕ → Line
in_space bytes = record { text = patch 0 bytes (replicate line_limit 0); length = length bytes }

-- a line that lies in its space
abbrev pub Fits : Line → Type 0
Fits l = l.length ≤ length l.text
