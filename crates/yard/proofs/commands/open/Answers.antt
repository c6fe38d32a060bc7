use Rattle.std.proofs.Common.{◌≡◌, ◌∙◌, sym, false}
use Rattle.yard.specs.Commands.{misframed_opening}
use Rattle.yard.specs.CommandsLaws.{open_misframed, open_many, open_few}
use Rattle.yard.proofs.commands.«open».Goals as goal

pub returns-then-is_misframed_opening : goal.returns-then-is_misframed_opening
returns-then-is_misframed_opening c =
    open_misframed c.args.bytes.now c.refused_opening.result (sym c.is_misframed_opening.ensures ∙ c.if-is_misframed_opening.true) c.refused_opening.ensures

pub returns-then-n-gt-MOST_SEATS : goal.returns-then-n-gt-MOST_SEATS
returns-then-n-gt-MOST_SEATS c =
    let whole : misframed_opening c.args.bytes.now ≡ false = sym c.is_misframed_opening.ensures ∙ c.if-is_misframed_opening.false in
    let refused = c.refused_opening-then-n-gt-MOST_SEATS in
    open_many c.args.bytes.now refused.result whole c.byte_or_zero-n.result c.byte_or_zero-n.ensures.0 c.if-n-gt-MOST_SEATS.true refused.ensures

pub returns : goal.returns
returns c =
    let whole : misframed_opening c.args.bytes.now ≡ false = sym c.is_misframed_opening.ensures ∙ c.if-is_misframed_opening.false in
    open_few c.args.bytes.now c.«open».result whole c.byte_or_zero-n.result c.byte_or_zero-n.ensures.0 c.if-n-gt-MOST_SEATS.false
    c.byte_or_zero-seat.result c.two_at-round.result _ c.byte_or_zero-seat.ensures.0 c.two_at-round.ensures.0 c.keys_of.ensures c.«open».ensures
