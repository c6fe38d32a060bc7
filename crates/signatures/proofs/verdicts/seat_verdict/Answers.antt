use Rattle.std.proofs.Common.{arith}
use Rattle.protocol.specs.Layout.{signature_length}
use Rattle.lms.specs.VerifyLaws.{key_fits}
use Rattle.signatures.specs.SeatsLaws.{leaf_differs, leaf_agrees}
use Rattle.signatures.proofs.verdicts.seat_verdict.Goals as goal

pub word_at-requires : goal.word_at-requires
unfolding signature_length
word_at-requires c = omega arith

pub returns-then-word_at-fleet : goal.returns-then-word_at-fleet
returns-then-word_at-fleet c = search leaf_differs

pub verified-requires : goal.verified-requires
verified-requires c = (key_fits _ c.seat_key.ensures.1, c.seat_key.ensures.1)

pub returns : goal.returns
returns c = search leaf_agrees
