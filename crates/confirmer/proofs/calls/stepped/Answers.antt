use Rattle.std.proofs.Common.{refl}
use Rattle.protocol.specs.Refusals.{step_conditions}
use Rattle.protocol.specs.Calls.{step}
use Rattle.wire.specs.KindLaws.{kind-told}
use Rattle.forms.specs.MessagesLaws.{message-formed}
use Rattle.confirmer.specs.ReturnsLaws.{Lent, Acted, stepping, part-within, part_length, part-ready, end-small, refused_by_record, refused_by_rest, leaves}
use Rattle.confirmer.proofs.calls.stepped.Goals as goal

pub returns-in_err-fleet-clause-outcome : goal.returns-in_err-fleet-clause-outcome
unfolding step step_conditions
returns-in_err-fleet-clause-outcome c =
    let a = c.args in
    refused_by_record (stepping a.keys.now a.r a.store.now a.message.now a.out.now) c.from_residual.result c.in_err-fleet.field-0.0 c.from_residual.ensures.1 c.in_err-fleet.ensures.number

pub step_refusal-heard-requires : goal.step_refusal-heard-requires
step_refusal-heard-requires c = rw c.in_ok-fleet.ensures.made.0 (kind-told _ _ c.classify-kind.ensures)

pub returns-in_err-heard-clause-outcome : goal.returns-in_err-heard-clause-outcome
unfolding step step_conditions
returns-in_err-heard-clause-outcome c =
    let a = c.args in
    let f = c.in_ok-fleet.ensures in
    let r = c.from_residual-in_err-heard in
    let told = rw (f.made.0, f.made.1, f.made.2) at c.in_err-heard.ensures in
    refused_by_rest (stepping a.keys.now a.r a.store.now a.message.now a.out.now) r.result c.in_err-heard.field-0.0 r.ensures.1 f.number told

pub slice_bounds-step_phase-end : goal.slice_bounds-step_phase-end
slice_bounds-step_phase-end c =
    let a = c.args in
    let f = c.in_ok-fleet.ensures in
    let l : Lent (stepping a.keys.now a.r a.store.now a.message.now a.out.now) _ = record { passed = f.number; told = rw (f.made.0, f.made.1, f.made.2) at c.in_ok-heard.ensures; stated = c.out_length-room.ensures } in
    part-within l

pub slice_bounds-step_phase-end-2 : goal.slice_bounds-step_phase-end-2
slice_bounds-step_phase-end-2 c =
    let a = c.args in
    let f = c.in_ok-fleet.ensures in
    let l : Lent (stepping a.keys.now a.r a.store.now a.message.now a.out.now) _ = record { passed = f.number; told = rw (f.made.0, f.made.1, f.made.2) at c.in_ok-heard.ensures; stated = c.out_length-room.ensures } in
    part_length l

pub step_phase-requires : goal.step_phase-requires
step_phase-requires c =
    let a = c.args in
    let f = c.in_ok-fleet.ensures in
    let told = rw (f.made.0, f.made.1, f.made.2) at c.in_ok-heard.ensures in
    let l : Lent (stepping a.keys.now a.r a.store.now a.message.now a.out.now) _ = record { passed = f.number; told = told; stated = c.out_length-room.ensures } in
    let formed = message-formed _ _ _ _ _ _ told refl in
    (part-ready l, kind-told _ _ c.classify-kind.ensures, formed.known, formed.ordered)

pub returns-clause-small : goal.returns-clause-small
returns-clause-small c =
    let a = c.args in
    let f = c.in_ok-fleet.ensures in
    let p = c.step_phase in
    let l : Lent (stepping a.keys.now a.r a.store.now a.message.now a.out.now) _ = record { passed = f.number; told = rw (f.made.0, f.made.1, f.made.2) at c.in_ok-heard.ensures; stated = c.out_length-room.ensures } in
    let acted : Acted (stepping a.keys.now a.r a.store.now a.message.now a.out.now) _ p.result _ _ = record { lent = l; did = p.ensures; long = p.auto.out } in
    end-small acted

pub returns-clause-outcome : goal.returns-clause-outcome
unfolding step step_conditions
returns-clause-outcome c =
    let a = c.args in
    let f = c.in_ok-fleet.ensures in
    let p = c.step_phase in
    let l : Lent (stepping a.keys.now a.r a.store.now a.message.now a.out.now) _ = record { passed = f.number; told = rw (f.made.0, f.made.1, f.made.2) at c.in_ok-heard.ensures; stated = c.out_length-room.ensures } in
    let acted : Acted (stepping a.keys.now a.r a.store.now a.message.now a.out.now) _ p.result _ _ = record { lent = l; did = p.ensures; long = p.auto.out } in
    leaves acted
