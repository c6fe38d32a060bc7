-- The program as it reads command by command into fixed buffers.
-- Assumes nothing.
use Rattle.std.specs.Prelude.{cond, List, [], ◌∷◌, ◌++◌, ℕ, zero, suc, ltb, leb, length, take, drop}
use Rattle.protocol.specs.Refusals.{Checks}
use Rattle.protocol.specs.declared.Record.{Record}
use Rattle.yard.specs.Commands.{keys_of, opening_length, begun, call_length, called}

-- The bytes read after reading on, from those in `have`, to `to` bytes or to the end of the input.
unfoldable pub read_on : List ℕ → ℕ → List ℕ → List ℕ
read_on have to input = cond (leb to (length have)) have (take to input)

-- A command's bytes as they are read, where `size` is its length as far as its start tells it: one byte, then as many as that
-- one tells, then as many as those tell; none where the input has ended.
unfoldable pub gathered : (List ℕ → ℕ) → List ℕ → List ℕ
gathered size [] = []
gathered size (b ∷ rest) =
    let have = read_on (b ∷ []) (size (b ∷ [])) (b ∷ rest) in
    cond (ltb (length have) (size (b ∷ []))) have (read_on have (size have) (b ∷ rest))

module _ (checks : List ℕ → ℕ → Checks) (outs : ℕ → List ℕ) where
  -- the output of the loop over the later commands, at most `limit`; each finds some bytes in the out buffer
  unfoldable pub ran : ℕ → List ℕ → Record → List ℕ → List ℕ → List ℕ
  ran zero keys r store input = []
  ran (suc limit) keys r store input =
      let bytes = gathered call_length input in
      let o = called checks keys r store (outs limit) bytes in
      o.line ++ cond o.ends [] (ran limit keys o.unit o.store (drop (length bytes) input))

  unfoldable pub program : ℕ → List ℕ → List ℕ
  program limit input =
      let bytes = gathered opening_length input in
      let o = begun bytes in
      o.line ++ cond o.ends [] (ran limit (keys_of bytes) o.unit o.store (drop (length bytes) input))
