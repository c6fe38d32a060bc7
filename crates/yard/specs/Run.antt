-- A run of the program, command by command: its input and its lines, with record and buffers.
-- Assumes nothing.
use Rattle.std.specs.Prelude.{◌≡◌, Bool, true, false, List, [], ◌++◌, ℕ, length}
use Rattle.protocol.specs.Refusals.{Checks}
use Rattle.protocol.specs.Calls.{out_after}
use Rattle.protocol.specs.declared.Record.{Record}
use Rattle.yard.specs.Commands.{keys_of, opening_length, yard_out, begun, call_length, called}
use Rattle.yard.specs.Program.{gathered}

-- Later commands, one after another, from a first record, store and out: their bytes, their lines, whether the last one ends the
-- program, and record, store and out after it. None follows one that ends.
pub data Reached (checks : List ℕ → ℕ → Checks) (keys : List ℕ) (r₀ : Record) (store₀ out₀ : List ℕ) : List ℕ → List ℕ → Bool → Record → List ℕ → List ℕ → Type 0 where
  begins : Reached checks keys r₀ store₀ out₀ [] [] false r₀ store₀ out₀
  follows : {input lines : List ℕ} {r : Record} {store out : List ℕ} → Reached checks keys r₀ store₀ out₀ input lines false r store out
      → length out ≡ length out₀ → (bytes : List ℕ) → gathered call_length bytes ≡ bytes
      → Reached checks keys r₀ store₀ out₀ (input ++ bytes) (lines ++ (called checks keys r store out bytes).line) (called checks keys r store out bytes).ends
      (called checks keys r store out bytes).unit (called checks keys r store out bytes).store (out_after (called checks keys r store out bytes).written out)

-- The whole program: its input, its lines, whether it came to an end, and the last record. It ends with the opening, or goes on
-- from there.
pub data Ran (checks : List ℕ → ℕ → Checks) : List ℕ → List ℕ → Bool → Record → Type 0 where
  stops : (bytes : List ℕ) → gathered opening_length bytes ≡ bytes → (begun bytes).ends ≡ true → Ran checks bytes (begun bytes).line true (begun bytes).unit
  goes : {input lines : List ℕ} {ends : Bool} {last : Record} {store out : List ℕ} (bytes : List ℕ) → gathered opening_length bytes ≡ bytes → (begun bytes).ends ≡ false
      → Reached checks (keys_of bytes) (begun bytes).unit (begun bytes).store yard_out input lines ends last store out
      → Ran checks (bytes ++ input) ((begun bytes).line ++ lines) ends last
