use Rattle.protocol.specs.Step.{found, blames}
use Rattle.certificates.specs.Certificates.{heard_of}
use Rattle.certificates.specs.CertificatesLaws.{first_held, blamed, not_blamed}
use Rattle.certificates.proofs.certificate.hold_or_blame.Goals as goal

pub returns-then-p-eq0 : goal.returns-then-p-eq0
returns-then-p-eq0 c =
    let args = c.args in
    first_held args.p.unit args.store.now args.out.now args.p.at (heard_of args.p.unit.n args.c args.store.now) _ _ c.if-p-eq0.true c.hold-unit.ensures

pub returns-then-blames : goal.returns-then-blames
unfolding blames found
returns-then-blames c =
    let args = c.args in
    let done = c.blame in
    blamed args.p.unit args.store.now args.out.now args.p.at (heard_of args.p.unit.n args.c args.store.now) c.if-p-eq0.false c.blames.result c.blames.ensures
    done.result.unit args.store.now done.new.out done.result.at c.if-blames.true done.ensures

pub returns : goal.returns
unfolding blames found
returns c =
    let args = c.args in
    not_blamed args.p.unit args.store.now args.out.now args.p.at (heard_of args.p.unit.n args.c args.store.now) c.if-p-eq0.false c.blames.result c.blames.ensures c.if-blames.false
