use Rattle.std.proofs.Common.{◌∙◌, ap, not}
use Rattle.refusal.specs.Order.{is_in}
use Rattle.dispatch.specs.Turns.{never_served}
use Rattle.dispatcher.specs.LoopLaws.{any_in}
use Rattle.dispatcher.proofs.turns.never_served.Goals as goal

pub returns : goal.returns
unfolding never_served
returns c =
    let lane = c.args.lane in
    ap not (c.contains.ensures.value ∙ any_in lane c.serving.result.now ∙ ap (is_in lane) c.serving.ensures.lanes)
