use Rattle.std.proofs.Common.{◌≡◌, take}
use Rattle.octets.specs.Octets.{bytes, patch}
use Rattle.octets.proofs.put_words.Given as goal

abbrev pub invariant-loop-i : goal.invariant-loop-i
invariant-loop-i l = l.out ≡ patch l.at (bytes (take l.i l.words)) l.initial.out
