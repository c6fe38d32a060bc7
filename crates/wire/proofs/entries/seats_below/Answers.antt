use Rattle.std.proofs.Common.{ℕ, ltb, sym, ◌∙◌, arith}
use borrow.Author.Tests.{lt-ltb, le-ltb}
use Rattle.protocol.specs.EntriesLaws.{passed_none, passed_next, passed_all, each_not}
use Rattle.wire.specs.Reading.{seat_place}
use Rattle.wire.specs.WalkLaws.{every_byte}
use Rattle.wire.proofs.entries.seats_below.Goals as goal

pub loop-i-init : goal.loop-i-init
loop-i-init c = passed_none

pub returns-then-n-seat_of_entry : goal.returns-then-n-seat_of_entry
returns-then-n-seat_of_entry c =
    sym (every_byte (seat_place c.args.entries) c.args.m.now (λ (x : ℕ). ltb x c.args.n) c.args.entries.count ∙ each_not _ c.loop-i.i _ (omega arith) (le-ltb _ _ (rw c.seat_of_entry.ensures.0 at c.if-n-seat_of_entry.true)))

pub loop-i-preserved : goal.loop-i-preserved
loop-i-preserved c = passed_next c.loop-i.invariant (omega arith) (lt-ltb _ _ (rw c.seat_of_entry.ensures.0 at c.if-n-seat_of_entry.false))

pub returns : goal.returns
returns c =
    sym (every_byte (seat_place c.args.entries) c.args.m.now (λ (x : ℕ). ltb x c.args.n) c.args.entries.count ∙ passed_all c.loop-i.invariant (omega arith))
