use Rattle.std.proofs.Common.{◌∙◌, ◌≡◌, rules, arith, take_all, length}
use Rattle.sha256_block.proofs.first_words.Goals as goal

pub returns : goal.returns
returns c =
    let all : c.loop-i.i ≡ 16 = omega arith in
    let long : length c.args.m ≡ 16 = search rules in
    rw all at c.loop-i.invariant.filled ∙ take_all 16 c.args.m (omega arith)
