use Rattle.std.proofs.Common.{◌≡◌, take, length}
use Rattle.sha256_block.proofs.first_words.Given as goal

abbrev pub invariant-loop-i : goal.invariant-loop-i
invariant-loop-i l = record { long : length l.w ≡ 64; filled : take l.i l.w ≡ take l.i l.m }
