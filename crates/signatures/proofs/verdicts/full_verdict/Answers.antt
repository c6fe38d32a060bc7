use Rattle.std.proofs.Common.{◌∙◌, arith}
use Rattle.refusal.specs.AnswersLaws.{number-nonzero, number-handed_on}
use Rattle.protocol.specs.EntriesLaws.{passed_none, passed_next, passed_all}
use Rattle.protocol.specs.Signatures.{checks}
use Rattle.signatures.specs.EntriesLaws.{accepted, signature-bad, signatures-good, value-inside, entries-signed, found-entry, found-end, entry-fits, entry-verdict}
use Rattle.signatures.proofs.verdicts.full_verdict.Goals as goal

pub loop-entry-init : goal.loop-entry-init
loop-entry-init c = let made = c.open-reader.ensures in record { over = rw made.0; passed = rw made.1 passed_none }

pub place_verdict-requires : goal.place_verdict-requires
place_verdict-requires c =
    let fits = entry-fits _ _ c.requires _ _ (rw c.loop-entry.invariant.over at c.in-Some.ensures) in
    (fits.0, (omega (arith, value-inside _ _ c.requires), fits.1))

pub returns-in_err-place_verdict : goal.returns-in_err-place_verdict
returns-in_err-place_verdict c =
    let e = c.in_err-place_verdict.field-0.0 in
    let f = rw c.loop-entry.invariant.over at c.in-Some.ensures in
    let bad = entry-verdict _ _ c.requires _ (checks c.args.fleet.keys.now c.args.fleet.round) _ f _ c.value_at.ensures _ c.in_err-place_verdict.ensures in
    number-handed_on c.from_residual.result e c.from_residual.ensures.1
    ∙ signature-bad _ _ _ _ (entries-signed _ _ c.requires _) _ (found-entry _ _ c.requires _ _ f).0 _ bad (number-nonzero e)

pub loop-entry-smaller : goal.loop-entry-smaller
loop-entry-smaller c =
    let f = rw c.loop-entry.invariant.over at c.in-Some.ensures in
    omega (arith, (found-entry _ _ c.requires _ _ f).0, c.advance-reader.ensures.1)

pub loop-entry-preserved : goal.loop-entry-preserved
loop-entry-preserved c =
    let moved = c.advance-reader.ensures in
    let held = c.loop-entry.invariant in
    let f = rw held.over at c.in-Some.ensures in
    let good = entry-verdict _ _ c.requires _ (checks c.args.fleet.keys.now c.args.fleet.round) _ f _ c.value_at.ensures _ c.in_ok-place_verdict.ensures in
    record {
      over = rw moved.0 held.over;
      passed = rw moved.1 (passed_next held.passed (found-entry _ _ c.requires _ _ f).0 (accepted _ good));
    }

pub returns : goal.returns
returns c =
    let held = c.loop-entry.invariant in
    signatures-good _ _ _ _ (entries-signed _ _ c.requires _) (passed_all held.passed (found-end _ _ c.requires _ (rw held.over at c.in_default.ensures)))
