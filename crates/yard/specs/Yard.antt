-- The yard's program as a function from the whole of its input to the whole of its output.
-- Assumes nothing.
use Rattle.std.specs.Prelude.{ℕ, zero, suc, cond, List, [], ◌++◌, length, take, drop}
use Rattle.protocol.specs.Refusals.{Checks}
use Rattle.protocol.specs.declared.Record.{Record}
use Rattle.yard.specs.Commands.{keys_of, opening_length, yard_out, begun, call_length, called}

module _ (checks : List ℕ → ℕ → Checks) where
  -- the output for the rest of the input, for at most `count` commands: key table, record, store, input
  unfoldable pub printed : ℕ → List ℕ → Record → List ℕ → List ℕ → List ℕ
  printed zero keys r store input = []
  printed (suc count) keys r store input =
      let size = call_length input in
      let o = called checks keys r store yard_out (take size input) in
      o.line ++ cond o.ends [] (printed count keys o.unit o.store (drop size input))

  -- each command has a byte at least, so an input has at most as many commands as bytes
  unfoldable pub yard : List ℕ → List ℕ
  yard input =
      let size = opening_length input in
      let bytes = take size input in
      let o = begun bytes in
      o.line ++ cond o.ends [] (printed (length input) (keys_of bytes) o.unit o.store (drop size input))
