use Rattle.std.proofs.Common.{◌≡◌, ◌∙◌, arith}
use Rattle.std.proofs.lemmas.Bool.Decides.{nat_tests}
use Rattle.protocol.specs.Layout.{signature_length, full_count_at, full_entry_length, full_entry_at}
use Rattle.protocol.specs.Message.{byte_at}
use Rattle.wire.specs.NextLaws.{entry_none, entry-short, entry_past, entry_found}
use Rattle.wire.proofs.reader.entry_at.Goals.{then-full-entry_at-via-then-full-entry_at, then-full-entry_at-via-else-full-entry_at+then-count-next}
use Rattle.wire.proofs.reader.entry_at.Goals as goal

pub returns-in_err-get : goal.returns-in_err-get
returns-in_err-get c = rw c.from_residual.ensures (entry_none c.args.full.now c.args.next grind (arith, nat_tests, c.in_err-get.ensures.lookup))

pub entry_at-requires : goal.entry_at-requires
unfolding full_entry_length signature_length
entry_at-requires c = rw c.full_entries-entries.ensures (omega arith)

pub returns-then-full-entry_at : goal.returns-then-full-entry_at
unfolding full_entry_at
returns-then-full-entry_at c =
    let read : c.from-count.result ≡ byte_at c.args.full.now full_count_at = rw c.full_count_at.ensures at (c.from-count.ensures ∙ c.in_ok-get.ensures.lookup.3.1 0) in
    let ends = rw c.full_entries-entries.ensures at c.entry_at.ensures in
    elim c.then-full-entry_at.branch [
      | then-full-entry_at-via-then-full-entry_at w ↦ entry-short c.args.full.now c.args.next c.from-count.result read (omega arith)
      | then-full-entry_at-via-else-full-entry_at+then-count-next w ↦ entry_past c.args.full.now c.args.next c.from-count.result read (omega arith) w.if-count-next.true
    ]

pub seat_of_entry-requires : goal.seat_of_entry-requires
unfolding full_entry_length signature_length
seat_of_entry-requires c =
    let ends = rw c.full_entries-entries.ensures at c.entry_at.ensures in
    rw c.full_entries-entries.ensures (omega arith, omega arith)

pub returns : goal.returns
unfolding full_entry_at
returns c =
    let read : c.from-count.result ≡ byte_at c.args.full.now full_count_at = rw c.full_count_at.ensures at (c.from-count.ensures ∙ c.in_ok-get.ensures.lookup.3.1 0) in
    entry_found c.args.full.now c.args.next c.from-count.result read (omega (arith, rw c.full_entries-entries.ensures at c.entry_at.ensures)) c.if-count-next.false
    _ (rw c.full_entries-entries.ensures at c.seat_of_entry.ensures.0) (rw c.full_entries-entries.ensures at c.entry_held_at.ensures)
