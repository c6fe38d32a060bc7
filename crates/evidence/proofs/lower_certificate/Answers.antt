use Rattle.std.proofs.Common.{refl}
use Rattle.refusal.specs.AnswersLaws.{number-nonzero}
use Rattle.evidence.specs.PassedLaws.{call, conflicting, both-taken}
use Rattle.evidence.specs.MakingLaws.{lower-outside, lower-refused, first_lower, second-lower}
use Rattle.evidence.proofs.lower_certificate.Goals as goal

pub returns-in_default-clause-bytes : goal.returns-in_default-clause-bytes
returns-in_default-clause-bytes c =
    (lower-outside (call c.args.n c.args.round c.args.keys.now) _ _ c.nothing.ensures {buffer = Unit} c.in_default.ensures.number (number-nonzero c.in_default.field-0)).0

pub returns-in_default-clause-buffer : goal.returns-in_default-clause-buffer
returns-in_default-clause-buffer c =
    (lower-outside (call c.args.n c.args.round c.args.keys.now) _ _ c.nothing.ensures c.in_default.ensures.number (number-nonzero c.in_default.field-0)).1

pub returns-in_default-two_refusal-clause-bytes : goal.returns-in_default-two_refusal-clause-bytes
returns-in_default-two_refusal-clause-bytes c =
    let made = c.in-Ok.ensures.made in
    let told = rw (made.0, made.1, made.2) at c.in_default-two_refusal.ensures in
    (lower-refused (call c.args.n c.args.round c.args.keys.now) c.in-Ok.ensures.number _ _ told c.nothing-in_default-two_refusal.ensures {buffer = Unit} (number-nonzero c.in_default-two_refusal.field-0)).0

pub returns-in_default-two_refusal-clause-buffer : goal.returns-in_default-two_refusal-clause-buffer
returns-in_default-two_refusal-clause-buffer c =
    let made = c.in-Ok.ensures.made in
    let told = rw (made.0, made.1, made.2) at c.in_default-two_refusal.ensures in
    (lower-refused (call c.args.n c.args.round c.args.keys.now) c.in-Ok.ensures.number _ _ told c.nothing-in_default-two_refusal.ensures (number-nonzero c.in_default-two_refusal.field-0)).1

pub first_is_lower-requires : goal.first_is_lower-requires
first_is_lower-requires c =
    let made = c.in-Ok.ensures.made in
    both-taken _ _ (conflicting _ _ _ _ _ (rw (made.0, made.1, made.2) at c.in-Ok-two_refusal.ensures) refl)

pub returns-then-first_is_lower-clause-bytes : goal.returns-then-first_is_lower-clause-bytes
returns-then-first_is_lower-clause-bytes c =
    let made = c.in-Ok.ensures.made in
    let told = rw (made.0, made.1, made.2) at c.in-Ok-two_refusal.ensures in
    (first_lower (call c.args.n c.args.round c.args.keys.now) c.in-Ok.ensures.number _ _ told refl c.first_is_lower.ensures c.args.first c.args.second c.if-first_is_lower.true).0

pub returns-then-first_is_lower-clause-buffer : goal.returns-then-first_is_lower-clause-buffer
returns-then-first_is_lower-clause-buffer c =
    let made = c.in-Ok.ensures.made in
    let told = rw (made.0, made.1, made.2) at c.in-Ok-two_refusal.ensures in
    (first_lower (call c.args.n c.args.round c.args.keys.now) c.in-Ok.ensures.number _ _ told refl c.first_is_lower.ensures c.args.first c.args.second c.if-first_is_lower.true).1

pub returns-clause-bytes : goal.returns-clause-bytes
returns-clause-bytes c =
    let made = c.in-Ok.ensures.made in
    let told = rw (made.0, made.1, made.2) at c.in-Ok-two_refusal.ensures in
    (second-lower (call c.args.n c.args.round c.args.keys.now) c.in-Ok.ensures.number _ _ told refl c.first_is_lower.ensures c.args.first c.args.second c.if-first_is_lower.false).0

pub returns-clause-buffer : goal.returns-clause-buffer
returns-clause-buffer c =
    let made = c.in-Ok.ensures.made in
    let told = rw (made.0, made.1, made.2) at c.in-Ok-two_refusal.ensures in
    (second-lower (call c.args.n c.args.round c.args.keys.now) c.in-Ok.ensures.number _ _ told refl c.first_is_lower.ensures c.args.first c.args.second c.if-first_is_lower.false).1
