-- Intermediate values of the code.
use Rattle.std.specs.Prelude.{ℕ, ◌+◌, ◌*◌, ◌/◌, ◌%◌}

-- the word with the last three bytes of a word and the first of the next
unfoldable pub across : ℕ → ℕ → ℕ
across a b = a % 16777216 * 256 + b / 16777216 % 256
