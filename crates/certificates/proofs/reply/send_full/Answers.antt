use Rattle.std.proofs.Common.{arith}
use Rattle.layout.specs.declared.Bank.TheVariants as bank
use Rattle.quorum.specs.Quorum.{size}
use Rattle.certificates.specs.CertificatesLaws.{readable_bank, full_bound, full-sent}
use Rattle.certificates.proofs.reply.send_full.Goals as goal

pub write_full-at-requires : goal.write_full-at-requires
write_full-at-requires c =
    let r = c.args.p.unit in
    let fits = c.requires.0 in
    let readable = readable_bank r.n bank.Collected r.own.collected c.args.store.now fits.collected fits.slots in
    (fits.most, omega (arith, fits.seated, fits.most), readable, omega (arith, full_bound r.n (size r.own.collected) fits.few, c.requires.1))

pub returns : goal.returns
returns c =
    let args = c.args in
    let wrote = c.write_full-at in (
      full-sent args.p.unit args.store.now args.out.now args.p.at wrote.new.out wrote.result wrote.ensures.0,
      omega (arith, wrote.ensures.1, full_bound args.p.unit.n (size args.p.unit.own.collected) c.requires.0.few),
    )
