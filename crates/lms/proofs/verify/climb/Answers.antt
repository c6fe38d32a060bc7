use Rattle.std.proofs.Common.{◌≡◌, ◌+◌, ◌*◌, refl, sym, ap, ◌∙◌, div-one, arith, rules}
use Rattle.octets.specs.OctetsLaws.{length_part}
use Rattle.octets.specs.Octets.{bytes}
use Rattle.rfc8554.specs.Verify.{climbed, signature_length}
use Rattle.lmots_digits.specs.Width.{bits_of}
use Rattle.lms.specs.NodeLaws.{half_next, climbed_next}
use Rattle.lms.proofs.verify.climb.Goals as goal

pub loop-i-init : goal.loop-i-init
unfolding climbed
loop-i-init c = record { long = search rules; node = sym (div-one _); value = refl }

pub overflow_mul-i : goal.overflow_mul-i
unfolding signature_length
overflow_mul-i c = omega arith

pub overflow_add-at-in-loop-i : goal.overflow_add-at-in-loop-i
unfolding signature_length
overflow_add-at-in-loop-i c = omega arith

pub bytes_at-beside-requires : goal.bytes_at-beside-requires
unfolding signature_length
bytes_at-beside-requires c = omega arith

pub level_up-tmp-requires : goal.level_up-tmp-requires
unfolding signature_length
level_up-tmp-requires c =
    (rw c.bytes_at-beside.ensures (length_part (8 + c.ots_length-at.result + 32 * c.loop-i.i) 32 c.args.signature.now (omega arith)), c.loop-i.invariant.long)

pub loop-i-preserved : goal.loop-i-preserved
loop-i-preserved c =
    let args = c.args in
    let loop = c.loop-i in
    record {
      long = search rules;
      node = half_next loop.x args.r loop.i loop.invariant.node;
      value =
          climbed_next (bytes args.id) args.signature.now args.start loop.tmp c.bytes_at-beside.result.now c.level_up-tmp.result
          (bits_of args.w) c.ots_length-at.result args.r loop.x loop.i c.ots_length-at.ensures.0 loop.invariant.node loop.invariant.value
          c.bytes_at-beside.ensures c.level_up-tmp.ensures;
    }

pub returns : goal.returns
returns c =
    let args = c.args in
    let all : c.loop-i.i ≡ args.h = omega arith in
    c.loop-i.invariant.value ∙ ap (climbed (bytes args.id) (bits_of args.w) args.r args.signature.now args.start) all
