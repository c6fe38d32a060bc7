use Rattle.std.proofs.Common.{◌≡◌, sym, ◌∙◌, arith}
use Rattle.octets.specs.StringsLaws.{number-part-four}
use Rattle.octets.specs.Octets.{bytes}
use Rattle.rfc8554.specs.Verify.{leaf_of, signature_length}
use Rattle.lmots_digits.specs.Width.{bits_of}
use Rattle.lms.specs.Types.{tree_type, ots_type}
use Rattle.lms.specs.TypesLaws.{bits_of-type}
use Rattle.lms.specs.NodeLaws.{root_from}
use Rattle.lms.proofs.verify.root_candidate.Goals as goal

pub word_at-q-requires : goal.word_at-q-requires
unfolding signature_length
word_at-q-requires c = omega arith

pub overflow_add-r : goal.overflow_add-r
unfolding signature_length
overflow_add-r c =
    let s = c.args.signature.now in
    let leaf : leaf_of s ≡ c.word_at-q.result = number-part-four 0 s (omega arith) ∙ sym c.word_at-q.ensures in
    omega arith

pub leaf_candidate-start-requires : goal.leaf_candidate-start-requires
unfolding signature_length
leaf_candidate-start-requires c = omega arith

pub climb-requires : goal.climb-requires
climb-requires c = rw c.height.ensures.0 c.requires.0

pub returns : goal.returns
unfolding signature_length
returns c =
    let args = c.args in
    rw (bits_of-type args.w)
    (root_from (bytes args.id) args.message.now args.signature.now c.leaf_candidate-start.result c.climb.result (tree_type args.tree)
    (ots_type args.w) c.height.result (bits_of args.w) c.word_at-q.result c.leaves.result c.height.ensures.0
    (bits_of-type args.w) (omega arith) c.word_at-q.ensures
    c.leaves.ensures.0 c.leaf_candidate-start.ensures c.climb.ensures)
