use Rattle.std.proofs.Common.{sym, ◌∙◌}
use Rattle.layout.specs.Places.{bank_of}
use Rattle.collecting.specs.KeepingLaws.{collect_kept_seat_open, kept-value-read}
use Rattle.collecting.proofs.kept.collect_kept_seat.Goals as goal

pub returns : goal.returns
unfolding bank_of
returns c =
    let args = c.args in
    let value = kept-value-read args.r args.store.now args.seat _ _ c.kept_value_at-at.ensures.0 c.value_at-value.ensures in
    collect_kept_seat_open args.r args.store.now args.seat _ _ _ _ (sym c.is_open_to.ensures ∙ c.if-not-is_open_to.false) value
    c.slot_copy-signature.ensures c.collect_if_wanted.ensures
