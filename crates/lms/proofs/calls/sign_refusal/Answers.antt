use Rattle.std.proofs.Common.{sym, ◌∙◌, ◌≤◌, length, arith}
use borrow.Author.Tests.{lt-ltb, le-ltb}
use Rattle.refusal.specs.Refusal.{first_of}
use Rattle.protocol.specs.Layout.{signature_length}
use Rattle.protocol.specs.Record.{last_round, wrong_round}
use Rattle.protocol.specs.Refusals.{short_out, sign_conditions}
use Rattle.protocol.specs.Signatures.{sign_refusal}
use Rattle.lms.proofs.calls.sign_refusal.Goals as goal

pub returns-then-last_round-leaf : goal.returns-then-last_round-leaf
unfolding sign_refusal sign_conditions wrong_round short_out first_of
returns-then-last_round-leaf c = rw (lt-ltb last_round _ (rw c.last_round.ensures at c.if-last_round-leaf.true))

pub returns-then-out-signature_length : goal.returns-then-out-signature_length
unfolding sign_refusal sign_conditions wrong_round short_out first_of
returns-then-out-signature_length c =
    let known : c.args.leaf ≤ last_round = omega arith in
    rw (le-ltb last_round _ known, lt-ltb _ signature_length (rw c.signature_length.ensures at c.if-out-signature_length.true))

pub returns-then-is_too_long : goal.returns-then-is_too_long
unfolding sign_refusal sign_conditions wrong_round short_out first_of
returns-then-is_too_long c =
    let known : c.args.leaf ≤ last_round = omega arith in
    let roomy : signature_length ≤ length c.args.out.now = omega arith in
    rw (le-ltb last_round _ known, le-ltb _ signature_length roomy, sym c.is_too_long.ensures ∙ c.if-is_too_long.true)

pub returns-then-wrong_signer_material : goal.returns-then-wrong_signer_material
unfolding sign_refusal sign_conditions wrong_round short_out first_of
returns-then-wrong_signer_material c =
    let known : c.args.leaf ≤ last_round = omega arith in
    let roomy : signature_length ≤ length c.args.out.now = omega arith in
    rw (le-ltb last_round _ known, le-ltb _ signature_length roomy, sym c.is_too_long.ensures ∙ c.if-is_too_long.false, sym c.wrong_signer_material.ensures ∙ c.if-wrong_signer_material.true)

pub returns : goal.returns
unfolding sign_refusal sign_conditions wrong_round short_out first_of
returns c =
    let known : c.args.leaf ≤ last_round = omega arith in
    let roomy : signature_length ≤ length c.args.out.now = omega arith in
    rw (le-ltb last_round _ known, le-ltb _ signature_length roomy, sym c.is_too_long.ensures ∙ c.if-is_too_long.false, sym c.wrong_signer_material.ensures ∙ c.if-wrong_signer_material.false)
