use Rattle.std.proofs.Common.{◌≡◌, sym, ◌∙◌}
use Rattle.refusal.specs.RefusalLaws.{rows}
use Rattle.protocol.specs.Layout.{out_length}
use Rattle.protocol.specs.RecordLaws.{possible}
use Rattle.protocol.specs.Refusals.{short_out, record_conditions}
use Rattle.validate.proofs.calls.record_fleet.Goals as goal

pub returns-then-is_impossible-clause-number : goal.returns-then-is_impossible-clause-number
unfolding record_conditions
returns-then-is_impossible-clause-number c = search rows

pub returns-then-wrong_keys-clause-number : goal.returns-then-wrong_keys-clause-number
unfolding record_conditions
returns-then-wrong_keys-clause-number c = search rows

pub short_store-requires : goal.short_store-requires
short_store-requires c = (possible _ (sym c.is_impossible.ensures ∙ c.if-is_impossible.false)).range.most

pub returns-then-short_store-clause-number : goal.returns-then-short_store-clause-number
unfolding record_conditions
returns-then-short_store-clause-number c = search rows

pub out_length-requires : goal.out_length-requires
out_length-requires c =
    let range = (possible _ (sym c.is_impossible.ensures ∙ c.if-is_impossible.false)).range in
    (range.some, range.most)

pub returns-then-short_out-clause-number : goal.returns-then-short_out-clause-number
unfolding record_conditions
returns-then-short_out-clause-number c = let short : c.short_out.result ≡ short_out (out_length c.args.r.n) c.args.out.now = c.short_out.ensures ∙ rw c.out_length.ensures in search (rows, short)

pub invariant_of-result : goal.invariant_of-result
invariant_of-result c =
    let ready = possible _ (sym c.is_impossible.ensures ∙ c.if-is_impossible.false) in
    record { given = record { some = ready.range.some; most = ready.range.most; dated = ready.range.dated; table = sym c.wrong_keys.ensures ∙ c.if-wrong_keys.false } }

pub returns-clause-number : goal.returns-clause-number
unfolding record_conditions
returns-clause-number c =
    let short : c.short_out.result ≡ short_out (out_length c.args.r.n) c.args.out.now = c.short_out.ensures ∙ rw c.out_length.ensures in
    search (rows, short) depth 6
