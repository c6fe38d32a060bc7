-- Results of the commands that the program reads.
-- Assumes nothing.
use Rattle.std.specs.Prelude.{◌≡◌, Bool, true, false, List, ℕ, take}
use Rattle.protocol.specs.Signatures.{checks}
use Rattle.protocol.specs.Calls.{out_after}
use Rattle.protocol.specs.declared.Record.{Record}
use Rattle.yard.specs.Commands.{begun, called}
use Rattle.yard.specs.Run.{Reached, Ran}
use Rattle.yard_io.specs.Reading.{Command}
use Rattle.yard_io.specs.declared.Taken.{Taken}

-- the first command, read into a buffer and done
pub record First (t : Taken) (input : List ℕ) : Type 0 where
  pub command : Command true t.have input
  pub ends : t.ends ≡ (begun (take t.have input)).ends
  pub unit : t.unit ≡ (begun (take t.have input)).unit

-- a later one: key table, record, store and out before; the buffers after
pub record Later (keys : List ℕ) (r : Record) (store out : List ℕ) (t : Taken) (input store' out' : List ℕ) : Type 0 where
  pub command : Command false t.have input
  pub ends : t.ends ≡ (called checks keys r store out (take t.have input)).ends
  pub unit : t.unit ≡ (called checks keys r store out (take t.have input)).unit
  pub stored : store' ≡ (called checks keys r store out (take t.have input)).store
  pub written : out' ≡ out_after (called checks keys r store out (take t.have input)).written out

-- ---- commands one after another, with some input and its lines

-- some later commands, the last of which ends the program or not: record, store and out before and after
pub record Commands (ends : Bool) (keys : List ℕ) (r : Record) (store out : List ℕ) (last : Record) (store' out' : List ℕ) : Type 0 where
  pub input : List ℕ
  pub lines : List ℕ
  pub reached : Reached checks keys r store out input lines ends last store' out'

-- all of them
pub record AfterCalls (keys : List ℕ) (r : Record) (store out : List ℕ) (last : Record) (store' out' : List ℕ) : Type 0 where
  pub ends : Bool
  pub commands : Commands ends keys r store out last store' out'

-- the whole program, with its last record
pub record AfterRun (last : Record) : Type 0 where
  pub input : List ℕ
  pub lines : List ℕ
  pub ends : Bool
  pub ran : Ran checks input lines ends last
