-- Arguments besides a message that aren't refused.
-- Assumes nothing.
use Rattle.std.specs.Prelude.{◌≡◌, false, List, ℕ, ◌≤◌}
use Rattle.quorum.specs.Quorum.{most_seats}
use Rattle.protocol.specs.Record.{last_round}
use Rattle.protocol.specs.Refusals.{wrong_keys}

-- n, round and key table are right
pub record Given (n round : ℕ) (keys : List ℕ) : Type 0 where
  pub some : 1 ≤ n
  pub most : n ≤ most_seats
  pub dated : round ≤ last_round
  pub table : wrong_keys n keys ≡ false
