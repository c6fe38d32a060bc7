use Rattle.std.proofs.Common.{refl, ◌∙◌}
use Rattle.fips180.specs.FipsLaws.{padded_tail, length_in_bits}
use Rattle.sha256.proofs.hash.padded_tail.Goals as goal

pub returns : goal.returns
returns c =
    padded_tail c.args.tail.now c.copy-2.new.out c.to_be_bytes.result 128 c.args.total _ refl c.requires refl
    (c.to_be_bytes.ensures ∙ length_in_bits c.args.total) cc
