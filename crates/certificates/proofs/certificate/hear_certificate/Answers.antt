use Rattle.std.proofs.Common.{length, arith}
use Rattle.protocol.specs.Step.{notices_with}
use Rattle.certificates.specs.CertificatesLaws.{replied_n, replied_fits, replied_room, certificate-heard}
use Rattle.certificates.proofs.certificate.hear_certificate.Goals as goal

pub hold_or_blame-requires : goal.hold_or_blame-requires
hold_or_blame-requires c =
    let args = c.args in
    let r = args.p.unit in
    let store = args.store.now in
    let heard = c.hear-unit in
    let replied = c.reply-replied in
    let notices = notices_with args.c.value r in
    let v = replied.result.unit in
    let changed = replied.ensures.0.changed in
    let same = replied_n r store notices heard.result heard.ensures v store changed in
    let room = replied_room r store notices heard.result heard.ensures v store changed args.p.at replied.result.at (length args.out.now) replied.ensures.1 c.requires.2 in
    (replied_fits r store notices heard.result heard.ensures v store changed c.requires.0, rw same c.requires.1, omega (arith, room, replied.auto.out))

pub returns : goal.returns
returns c =
    let args = c.args in
    let replied = c.reply-replied in
    let held = c.hold_or_blame in
    certificate-heard args.p.unit args.store.now args.out.now args.p.at (omega (arith, c.requires)) c.hear-unit.result replied.result.unit replied.new.out replied.result.at
    held.result.unit held.new.store held.new.out held.result.at args.c.source args.c.value args.c.bytes.now c.hear-unit.ensures replied.ensures.0 held.ensures
