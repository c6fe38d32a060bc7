use Rattle.std.proofs.lemmas.Result.{IfOk-weaker}
use Rattle.yard_io.specs.RunLaws.{first_stops, first_goes}
use Rattle.yard_io.proofs.run.Goals as goal

pub returns-then-first : goal.returns-then-first
returns-then-first g c = first_stops c.in_ok-first.ensures.ok c.if-first.true

pub returns : goal.returns
returns g c =
    IfOk-weaker c.run_calls.result _ _
    (λ last calls. first_goes c.in_ok-first.ensures.ok c.if-first.false c.keys_of.ensures c.new_store-store.ensures c.new_out-out.ensures calls)
    c.run_calls.ensures.ok
