use Rattle.std.proofs.Common.{[], arith}
use Rattle.layout.specs.declared.Bank.TheVariants as bank
use Rattle.wire_write.specs.WritingLaws.{shared-seats, shared-room}
use Rattle.certificates.specs.CertificatesLaws.{readable_bank, found-shared, evidence-sent}
use Rattle.certificates.specs.Certificates.{heard}
use Rattle.certificates.proofs.certificate.blame.Goals as goal

pub write_evidence-at-requires : goal.write_evidence-at-requires
write_evidence-at-requires c =
    let r = c.args.p.unit in
    let fits = c.requires.0 in
    let among = found-shared (heard r.n c.args.c.source [] [] []) r c.found-mask.result c.found-mask.ensures in
    let seats = shared-seats _ _ _ _ among fits.first in
    let readable = readable_bank r.n bank.First r.first.seats c.args.store.now fits.first fits.slots in
    (fits.most, readable, rw c.bytes_of.ensures c.requires.1, seats.0, seats.1, seats.2, omega (arith, shared-room _ _ _ _ among fits.held, c.requires.2))

pub returns : goal.returns
returns c =
    let args = c.args in
    let wrote = c.write_evidence-at in
    evidence-sent args.p.unit args.store.now args.out.now args.p.at wrote.new.out wrote.result args.c.source args.c.value args.c.bytes.now c.bytes_of.result.now
    c.found-mask.result c.union-guilty.result c.bytes_of.ensures c.found-mask.ensures c.union-guilty.ensures wrote.ensures.0
