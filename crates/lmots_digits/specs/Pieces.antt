-- Intermediate values of the code.
use Rattle.std.specs.Prelude.{ℕ, List, ◌++◌}
use Rattle.octets.specs.Octets.{be}

-- the front of the hash input of a message, key or node: identifier, leaf or node number, and the separator d
unfoldable pub front : List ℕ → ℕ → ℕ → List ℕ
front I q d = I ++ be 4 q ++ be 2 d
