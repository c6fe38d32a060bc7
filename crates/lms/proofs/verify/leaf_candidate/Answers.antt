use Rattle.std.proofs.Common.{◌∙◌, arith}
use Rattle.octets.specs.OctetsLaws.{length_part}
use Rattle.lms.specs.NodeLaws.{leaf_from}
use Rattle.lms.proofs.verify.leaf_candidate.Goals as goal

pub candidate-key-requires : goal.candidate-key-requires
candidate-key-requires c =
    let n = c.ots_length in
    rw c.bytes_at-sig.ensures (length_part 4 n.result c.args.signature.now (omega arith) ∙ n.ensures.0)

pub returns : goal.returns
returns c = search leaf_from
