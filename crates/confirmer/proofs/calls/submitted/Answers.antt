use Rattle.std.proofs.Common.{refl}
use Rattle.protocol.specs.Refusals.{submit_conditions}
use Rattle.protocol.specs.Calls.{submit}
use Rattle.validate.specs.Calls.{own_conditions}
use Rattle.validate.specs.CallsLaws.{own-passed}
use Rattle.confirmer.specs.ReturnsLaws.{Lent, Acted, submitting, ready, part-within, part_length, part-ready, end-small, refused_by_record, refused_by_rest, leaves}
use Rattle.confirmer.proofs.calls.submitted.Goals as goal

pub returns-in_err-fleet-clause-outcome : goal.returns-in_err-fleet-clause-outcome
unfolding submit submit_conditions own_conditions
returns-in_err-fleet-clause-outcome c =
    let a = c.args in
    refused_by_record (submitting a.keys.now a.r a.store.now a.value.now a.signature.now a.out.now) c.from_residual.result c.in_err-fleet.field-0.0 c.from_residual.ensures.1 c.in_err-fleet.ensures.number

pub own_refusal-requires : goal.own_refusal-requires
own_refusal-requires c =
    let a = c.args in
    let f = c.in_ok-fleet.ensures in
    (rw f.made.0 (ready (submitting a.keys.now a.r a.store.now a.value.now a.signature.now a.out.now) f.number).possible.range.seated, f.made.1)

pub returns-in_err-own_refusal-clause-outcome : goal.returns-in_err-own_refusal-clause-outcome
unfolding submit submit_conditions own_conditions
returns-in_err-own_refusal-clause-outcome c =
    let a = c.args in
    let f = c.in_ok-fleet.ensures in
    let r = c.from_residual-in_err-own_refusal in
    let told = rw f.made.2 at c.in_err-own_refusal.ensures in
    refused_by_rest (submitting a.keys.now a.r a.store.now a.value.now a.signature.now a.out.now) r.result c.in_err-own_refusal.field-0.0 r.ensures.1 f.number told

pub slice_bounds-submit_phase-end : goal.slice_bounds-submit_phase-end
slice_bounds-submit_phase-end c =
    let a = c.args in
    let f = c.in_ok-fleet.ensures in
    let l : Lent (submitting a.keys.now a.r a.store.now a.value.now a.signature.now a.out.now) _ = record { passed = f.number; told = rw f.made.2 at c.in_ok-own_refusal.ensures; stated = c.out_length-room.ensures } in
    part-within l

pub slice_bounds-submit_phase-end-2 : goal.slice_bounds-submit_phase-end-2
slice_bounds-submit_phase-end-2 c =
    let a = c.args in
    let f = c.in_ok-fleet.ensures in
    let l : Lent (submitting a.keys.now a.r a.store.now a.value.now a.signature.now a.out.now) _ = record { passed = f.number; told = rw f.made.2 at c.in_ok-own_refusal.ensures; stated = c.out_length-room.ensures } in
    part_length l

pub submit_phase-requires : goal.submit_phase-requires
submit_phase-requires c =
    let a = c.args in
    let f = c.in_ok-fleet.ensures in
    let told = rw f.made.2 at c.in_ok-own_refusal.ensures in
    let l : Lent (submitting a.keys.now a.r a.store.now a.value.now a.signature.now a.out.now) _ = record { passed = f.number; told = told; stated = c.out_length-room.ensures } in
    let right = own-passed _ _ _ _ _ told refl in
    (part-ready l, right.0, right.1, right.2)

pub returns-clause-small : goal.returns-clause-small
returns-clause-small c =
    let a = c.args in
    let f = c.in_ok-fleet.ensures in
    let p = c.submit_phase in
    let l : Lent (submitting a.keys.now a.r a.store.now a.value.now a.signature.now a.out.now) _ = record { passed = f.number; told = rw f.made.2 at c.in_ok-own_refusal.ensures; stated = c.out_length-room.ensures } in
    let acted : Acted (submitting a.keys.now a.r a.store.now a.value.now a.signature.now a.out.now) _ p.result _ _ = record { lent = l; did = p.ensures; long = p.auto.out } in
    end-small acted

pub returns-clause-outcome : goal.returns-clause-outcome
unfolding submit submit_conditions own_conditions
returns-clause-outcome c =
    let a = c.args in
    let f = c.in_ok-fleet.ensures in
    let p = c.submit_phase in
    let l : Lent (submitting a.keys.now a.r a.store.now a.value.now a.signature.now a.out.now) _ = record { passed = f.number; told = rw f.made.2 at c.in_ok-own_refusal.ensures; stated = c.out_length-room.ensures } in
    let acted : Acted (submitting a.keys.now a.r a.store.now a.value.now a.signature.now a.out.now) _ p.result _ _ = record { lent = l; did = p.ensures; long = p.auto.out } in
    leaves acted
