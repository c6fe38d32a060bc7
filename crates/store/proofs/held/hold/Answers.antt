use Rattle.std.proofs.Common.{◌<◌, sym, ◌∙◌, arith}
use Rattle.quorum.specs.QuorumLaws.{has_true, has_false}
use Rattle.store.specs.StoreLaws.{holding_none, holding_skip, holding-fill}
use Rattle.store.specs.SourcesLaws.{still-readable, same_signature, length-signature_from}
use Rattle.store.proofs.held.hold.Goals.{then-has, else-has}
use Rattle.store.proofs.held.hold.Goals as goal

pub loop-s-init : goal.loop-s-init
loop-s-init c = holding_none c.args.n c.args.source.seats _ c.args.store.now

pub hold_seat-requires : goal.hold_seat-requires
hold_seat-requires c =
    let args = c.args in
    let loop = c.loop-s in (
      c.requires.0,
      omega arith,
      (has_true loop.s args.source.seats).0 (sym c.has.ensures ∙ c.if-has.true),
      omega (arith, c.requires.1, loop.invariant.long),
      still-readable args.n args.source loop.store args.store.now args.m.now loop.invariant.long c.requires.2,
    )

pub loop-s-preserved : goal.loop-s-preserved
loop-s-preserved c =
    let args = c.args in
    let n = args.n in
    let source = args.source in
    let loop = c.loop-s in
    let store = args.store.now in
    let m = args.m.now in
    let below : loop.s < n = omega arith in
    elim c.if-has.branch [
      | then-has w ↦
          let i = (has_true loop.s source.seats).0 (sym c.has.ensures ∙ w.if-has.true) in
          let same = same_signature n source loop.store store m loop.s (λ b x. loop.invariant.others b x loop.s (omega arith) below) in
          holding-fill n source.seats _ store loop.s loop.store loop.invariant below _ c.if-has.store i c.requires.1 same
          (length-signature_from n source _ (still-readable n source loop.store store m loop.invariant.long c.requires.2) loop.s below i) (w.store-is ∙ w.hold_seat.ensures)
      | else-has w ↦
          rw w.store-is (holding_skip n source.seats _ store loop.s loop.store loop.invariant below ((has_false loop.s source.seats).0 (sym c.has.ensures ∙ w.if-has.false)))
    ]
