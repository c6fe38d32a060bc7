use Rattle.std.proofs.Common.{arith}
use Rattle.octets.specs.Octets.{part}
use Rattle.rfc8554.specs.Ots.{ots_length}
use Rattle.lmots.specs.KeyLaws.{key_completed}
use Rattle.lmots.proofs.key.candidate.Goals as goal

pub slice_bounds-message_digits-end : goal.slice_bounds-message_digits-end
unfolding ots_length
slice_bounds-message_digits-end c = omega arith

pub returns : goal.returns
unfolding part
returns c =
    key_completed _ _ _ _ _ _ _ _ _ _ c.message_digits-digits.ensures c.front-start.ensures c.chains-ends.ensures.0 c.completed-z.ensures
    c.sha256_two.ensures
