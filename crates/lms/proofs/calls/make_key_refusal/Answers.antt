use Rattle.std.proofs.Common.{sym, ◌∙◌, ◌≤◌, length, arith}
use borrow.Author.Tests.{lt-ltb, le-ltb}
use Rattle.refusal.specs.Refusal.{first_of}
use Rattle.protocol.specs.Layout.{key_length}
use Rattle.protocol.specs.Refusals.{short_out, make_key_conditions}
use Rattle.protocol.specs.Signatures.{make_key_refusal}
use Rattle.lms.proofs.calls.make_key_refusal.Goals as goal

pub returns-then-out-key_length : goal.returns-then-out-key_length
unfolding make_key_refusal make_key_conditions short_out first_of
returns-then-out-key_length c = rw (lt-ltb _ key_length (rw c.key_length.ensures at c.if-out-key_length.true))

pub returns-then-wrong_maker_material : goal.returns-then-wrong_maker_material
unfolding make_key_refusal make_key_conditions short_out first_of
returns-then-wrong_maker_material c =
    let roomy : key_length ≤ length c.args.out.now = omega arith in
    rw (le-ltb _ key_length roomy, sym c.wrong_maker_material.ensures ∙ c.if-wrong_maker_material.true)

pub returns : goal.returns
unfolding make_key_refusal make_key_conditions short_out first_of
returns c =
    let roomy : key_length ≤ length c.args.out.now = omega arith in
    rw (le-ltb _ key_length roomy, sym c.wrong_maker_material.ensures ∙ c.if-wrong_maker_material.false)
