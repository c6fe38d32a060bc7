-- Results of a phase of submit and step, and the state before and after every phase.
use Rattle.std.specs.Prelude.{◌≡◌, List, ℕ, ◌^◌, ◌≤◌, ◌<◌, length}
use Rattle.quorum.specs.Quorum.{most_seats, k, size}
use Rattle.protocol.specs.Layout.{store_length}
use Rattle.protocol.specs.Message.{render_all}
use Rattle.protocol.specs.Calls.{start}
use Rattle.protocol.specs.Step.{State}
use Rattle.protocol.specs.declared.Record.{Record}
use Rattle.wire_write.specs.Writing.{Wrote}

-- the phase f leaves this record and this store
pub record Changed (f : State → State) (r : Record) (store : List ℕ) (unit : Record) (store' : List ℕ) : Type 0 where
  pub recorded : unit ≡ (f (start r store)).unit
  pub stored : store' ≡ (f (start r store)).store

-- and has written its messages from index `at` of out on, up to `end`
pub record Did (f : State → State) (r : Record) (store out : List ℕ) (at : ℕ) (unit : Record) (store' out' : List ℕ) (end : ℕ) : Type 0 where
  pub changed : Changed f r store unit store'
  pub wrote : Wrote at (render_all (f (start r store)).written) out out' end

-- state before and after every phase: n and the seat are in range, the masks name seats below n, each of them at most k, and the
-- store has a slot for every seat
pub record Fits (r : Record) (store : List ℕ) : Type 0 where
  pub some : 1 ≤ r.n
  pub most : r.n ≤ most_seats
  pub seated : r.seat < r.n
  pub collected : r.own.collected < 2 ^ r.n
  pub few : size r.own.collected ≤ k r.n
  pub first : r.first.seats < 2 ^ r.n
  pub held : size r.first.seats ≤ k r.n
  pub slots : store_length r.n ≤ length store
