-- A buffer after reading.
-- Assumes nothing.
use Rattle.std.specs.Prelude.{◌≡◌, Bool, true, false, List, ℕ, ◌+◌, ◌-◌, ◌≤◌, length, take}
use Rattle.yard.specs.Commands.{opening_length, longest_opening, call_length, longest_call}
use Rattle.yard.specs.Program.{gathered}

-- ---- the first command or a later one

-- room for it
abbrev pub room : Bool → ℕ
room true = longest_opening
room false = longest_call

-- its length, as far as the bytes at its start tell it
abbrev pub size_of : Bool → List ℕ → ℕ
size_of true bytes = opening_length bytes
size_of false bytes = call_length bytes

-- ---- the buffer after reading

-- reading on from index `have` to index `to`, after which r bytes are there: those below `have` stay
pub record ReadOn (have to r : ℕ) (before after : List ℕ) : Type 0 where
  pub more : have ≤ r
  pub most : r ≤ have + (to - have)
  pub there : r ≤ length after
  pub stays : take have after ≡ take have before

-- a command of so many bytes at the start of a buffer: whole or as far as the input has it, and nothing after it
pub record Command (first : Bool) (have : ℕ) (buffer : List ℕ) : Type 0 where
  pub there : have ≤ length buffer
  pub alone : gathered (size_of first) (take have buffer) ≡ take have buffer
