use Rattle.std.proofs.Common.{sym, ap, ◌∙◌, arith}
use Rattle.protocol.specs.Entries.{place_of}
use Rattle.protocol.specs.Message.{evidence_form}
use Rattle.layout.specs.declared.Entries.{Entries}
use Rattle.wire.specs.Reading.{command_place}
use Rattle.wire.specs.FormLaws.{evidence_not, command_not, commands-told, evidence-entries}
use Rattle.wire.proofs.read.is_evidence.Goals as goal

pub returns-then-command : goal.returns-then-command
returns-then-command c = search command_not

pub returns-then-count-lt1 : goal.returns-then-count-lt1
returns-then-count-lt1 c =
    let counted = ap (λ (x : Entries). x.count) c.evidence_entries-found.ensures.0 in
    evidence_not _ _ (λ f. omega arith)

pub returns-then-n-count : goal.returns-then-n-count
returns-then-n-count c =
    let counted = ap (λ (x : Entries). x.count) c.evidence_entries-found.ensures.0 in
    evidence_not _ _ (λ f. omega arith)

pub returns-then-m-entry_at : goal.returns-then-m-entry_at
unfolding place_of evidence_form
returns-then-m-entry_at c =
    let sized = c.entry_at.ensures ∙ ap (λ (x : Entries). command_place x x.count) c.evidence_entries-found.ensures.0 in
    evidence_not _ _ (λ f. c.if-m-entry_at.true (f.size ∙ sym sized))

pub returns : goal.returns
unfolding place_of evidence_form
returns c =
    let counted = ap (λ (x : Entries). x.count) c.evidence_entries-found.ensures.0 in
    let sized = c.entry_at.ensures ∙ ap (λ (x : Entries). command_place x x.count) c.evidence_entries-found.ensures.0 in
    let commands = commands-told _ _ c.byte_or_zero-command.ensures.0 c.if-command.false in
    evidence-entries _ _ _ commands.0 (omega arith) (omega arith) (c.if-m-entry_at.false ∙ sized)
    (rw (c.evidence_entries-found.ensures.0, commands.1) at c.have_command.ensures)
