use Rattle.std.proofs.Common.{arith}
use Rattle.signatures.specs.SignaturesLaws.{entry-room, pair-once, pair_each}
use Rattle.signatures.proofs.verdicts.pair_at.Goals as goal

pub entry_held_at-held-requires : goal.entry_held_at-held-requires
entry_held_at-held-requires c = omega (arith, entry-room _ c.requires.1 _ c.requires.2 _ c.requires.0)

pub pair_from-requires : goal.pair_from-requires
pair_from-requires c = let r = entry-room _ c.requires.1 _ c.requires.2 _ c.requires.0 in (omega arith, omega arith)

pub returns-then-number_at-eq-OLD_EVIDENCE : goal.returns-then-number_at-eq-OLD_EVIDENCE
returns-then-number_at-eq-OLD_EVIDENCE c = search pair-once

pub overflow_add-held : goal.overflow_add-held
overflow_add-held c = omega (arith, entry-room _ c.requires.1 _ c.requires.2 _ c.requires.0)

pub pair_from-requires-2 : goal.pair_from-requires-2
pair_from-requires-2 c = let r = entry-room _ c.requires.1 _ c.requires.2 _ c.requires.0 in (omega arith, omega arith)

pub returns : goal.returns
returns c = search pair_each
