use Rattle.std.proofs.Common.{sym, ◌∙◌, arith}
use Rattle.certificates.specs.CertificatesLaws.{reply_not_owed}
use Rattle.certificates.proofs.reply.reply.Goals as goal

pub returns : goal.returns
returns c =
    let args = c.args in
    (reply_not_owed args.p.unit args.store.now args.out.now args.p.at (sym c.owes_full.ensures ∙ c.if-owes_full.false), omega arith)
