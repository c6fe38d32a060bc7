use Rattle.std.proofs.Common.{length, sym, ◌∙◌, arith}
use Rattle.layout.specs.declared.Bank.TheVariants as bank
use Rattle.store.specs.Sources.{bytes_of}
use Rattle.certificates.specs.CertificatesLaws.{readable_bank}
use Rattle.steps.specs.ConfirmingLaws.{confirmed-fits, confirmed-room, confirm_if_complete-complete, confirm_if_complete_incomplete}
use Rattle.steps.proofs.confirm.confirm_if_complete.Goals as goal

pub hear_certificate-requires : goal.hear_certificate-requires
unfolding bytes_of
hear_certificate-requires c =
    let done = c.confirm-confirmed in
    let args = c.args in
    let store = args.store.now in
    let unit = done.result.unit in
    let told = (done.ensures.0 store).changed in
    let fits = confirmed-fits args.p.unit store unit told c.requires.0 in
    let room = confirmed-room args.p.unit store unit told args.p.at done.result.at (length args.out.now) done.ensures.1 c.requires.1 in
    (fits, readable_bank unit.n bank.Collected unit.own.collected store fits.collected fits.slots, omega (arith, room, done.auto.out))

pub returns-then-is_complete : goal.returns-then-is_complete
unfolding bytes_of
returns-then-is_complete c =
    let own = c.hear_certificate in
    let done = c.confirm-confirmed in
    let args = c.args in
    confirm_if_complete-complete args.p.unit args.store.now args.out.now args.p.at own.result.unit own.new.store own.new.out own.result.at
    done.result.unit done.new.out done.result.at (omega (arith, c.requires)) (sym c.is_complete.ensures ∙ c.if-is_complete.true) (done.ensures.0 args.store.now) own.ensures

pub returns : goal.returns
returns c =
    let done = c.reply in
    let args = c.args in
    confirm_if_complete_incomplete args.p.unit args.store.now args.out.now args.p.at done.result.unit args.store.now done.new.out done.result.at (sym c.is_complete.ensures ∙ c.if-is_complete.false) done.ensures.0
