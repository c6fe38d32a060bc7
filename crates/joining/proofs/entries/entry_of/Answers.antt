use Rattle.std.proofs.Common.{◌≡◌, ℕ, ◌+◌, ap, ◌∙◌, arith}
use Rattle.quorum.specs.Quorum.{size, shared, all}
use Rattle.protocol.specs.Layout.{signature_length, evidence_entry_length}
use Rattle.joining.specs.PacksLaws.{placed, entry-inside, entry_read}
use Rattle.joining.proofs.entries.entry_of.Goals as goal

-- the seats below are counted
counted : (seat set : ℕ) {below of : ℕ} → of ≡ all seat → below ≡ size (shared set of) → below ≡ size (shared set (all seat))
counted seat set e f = f ∙ ap (λ (x : ℕ). size (shared set x)) e

pub entry_at-at-requires : goal.entry_at-at-requires
unfolding evidence_entry_length signature_length
entry_at-at-requires c = rw c.evidence_entries-entries.ensures (omega arith)

pub entry_at-end-requires : goal.entry_at-end-requires
unfolding evidence_entry_length signature_length
entry_at-end-requires c = rw c.evidence_entries-entries.ensures (omega arith)

pub slice_bounds-result-end : goal.slice_bounds-result-end
slice_bounds-result-end c =
    let pre = c.requires in
    let below = counted c.args.seat c.args.set c.all.ensures c.shared_count-below.ensures in
    omega (arith, placed c.evidence_entries-entries.ensures (ap (λ (x : ℕ). x + 1) below) c.entry_at-end.ensures, entry-inside c.args.n c.args.pack.now c.args.set pre.3 c.args.seat pre.1 pre.2)

pub returns : goal.returns
returns c =
    let pre = c.requires in
    let entries = c.evidence_entries-entries.ensures in
    let below = counted c.args.seat c.args.set c.all.ensures c.shared_count-below.ensures in
    entry_read _ _ _ pre.3 _ pre.1 pre.2 (placed entries below c.entry_at-at.ensures) (placed entries (ap (λ (x : ℕ). x + 1) below) c.entry_at-end.ensures)
