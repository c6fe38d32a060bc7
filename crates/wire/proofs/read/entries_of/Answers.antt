use Rattle.std.proofs.Common.{ap, ⊎_elim, inl, inr}
use Rattle.wire.specs.KindLaws.{tag}
use Rattle.wire.specs.MessageLaws.{full-seats, evidence-seats, no_seats}
use Rattle.wire.proofs.read.entries_of.Goals as goal

pub returns-in-Full : goal.returns-in-Full
returns-in-Full c = rw c.full_entries.ensures (full-seats _ _ c.args.kind c.requires.2 c.in-Full.is c.k.result c.k.ensures)

pub returns-in-OldEvidence : goal.returns-in-OldEvidence
returns-in-OldEvidence c = rw c.evidence_entries.ensures.0 (evidence-seats _ _ c.args.kind c.requires.2 (⊎_elim (λ a. inl (ap tag a)) (λ a. inr (ap tag a)) c.in-OldEvidence.is))

pub returns-in-Submit : goal.returns-in-Submit
returns-in-Submit c = rw c.full_entries-in-Submit.ensures (no_seats _ _ c.args.kind c.requires.2 (⊎_elim (λ a. inl (ap tag a)) (⊎_elim (λ a. inr (inl (ap tag a))) (λ a. inr (inr (ap tag a)))) c.in-Submit.is))
