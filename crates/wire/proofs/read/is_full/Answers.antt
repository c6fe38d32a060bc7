use Rattle.std.proofs.Common.{ap, ◌∙◌, arith}
use Rattle.protocol.specs.Layout.{signature_length, full_entry_length}
use Rattle.protocol.specs.Figures.{full_figure}
use Rattle.layout.specs.Places.{full}
use Rattle.wire.specs.FormLaws.{full-start, full-begun, full-count, full-entries}
use Rattle.wire.proofs.read.is_full.Goals as goal

pub returns-then-not-fits : goal.returns-then-not-fits
returns-then-not-fits c = full-start c.args.n c.args.m.now c.full_length.result c.full_length.ensures c.fits.result c.fits.ensures (cc)

pub number_at-requires : goal.number_at-requires
number_at-requires c =
    let begun = full-begun c.args.n c.args.m.now c.full_length.result c.full_length.ensures c.fits.result c.fits.ensures (cc) in
    omega (arith, begun.0, full_figure c.args.n)

pub returns-then-number_at-count : goal.returns-then-number_at-count
returns-then-number_at-count c =
    full-count c.args.n c.args.m.now (λ e. c.if-number_at-count.true (cc (c.number_at.ensures.0)))

pub have_command-requires : goal.have_command-requires
unfolding full_entry_length signature_length
have_command-requires c =
    let begun = full-begun c.args.n c.args.m.now c.full_length.result c.full_length.ensures c.fits.result c.fits.ensures (cc) in
    rw c.full_entries.ensures (omega (arith, begun.0, full_figure c.args.n))

pub returns : goal.returns
returns c =
    let begun = full-begun c.args.n c.args.m.now c.full_length.result c.full_length.ensures c.fits.result c.fits.ensures (cc) in
    let entries = c.full_entries.ensures ∙ ap full c.k-count.ensures in
    full-entries c.args.n c.args.m.now c.have_command.result begun.0 begun.1 (cc (c.number_at.ensures.0)) (rw entries at c.have_command.ensures)
