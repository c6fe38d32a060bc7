use Rattle.std.proofs.Common.{◌≡◌, List, ℕ, ap, ◌∙◌, arith}
use Rattle.quorum.specs.Quorum.{size, union}
use Rattle.protocol.specs.Figures.{joined-out_figure}
use Rattle.protocol.specs.Message.{read}
use Rattle.protocol.specs.Joining.{pack_set}
use Rattle.joining.specs.Packs.{Packs}
use Rattle.joining.specs.PacksLaws.{Room, pack_lt, pack_of_lem, new-kind, joined-room, joined-written}
use Rattle.joining.proofs.entries.write_joined.Goals as goal

-- the seats of either pack, and the room for their entries
room_of : (first second : List ℕ) {n round a b : ℕ} → Packs n round (read n first) (read n second) → a ≡ pack_set (read n first) → b ≡ pack_set (read n second) → Room n (union a b)
room_of first second p e f = joined-room _ _ _ (pack_lt _ _ _ (pack_of_lem _ _ _ p.first e)) (pack_lt _ _ _ (pack_of_lem _ _ _ p.second f))

pub entry_set-a-requires : goal.entry_set-a-requires
entry_set-a-requires c =
    let pre = c.requires in
    (pre.0, pre.1, new-kind _ pre.2.first.is, pre.2.first.known)

pub entry_set-b-requires : goal.entry_set-b-requires
entry_set-b-requires c =
    let pre = c.requires in
    (pre.0, pre.1, new-kind _ pre.2.second.is, pre.2.second.known)

pub write_pack_head-start-requires : goal.write_pack_head-start-requires
write_pack_head-start-requires c =
    let r = room_of _ _ c.requires.2 c.entry_set-a.ensures c.entry_set-b.ensures in
    (omega (arith, c.size-count.ensures ∙ ap (λ (x : ℕ). size x) c.union.ensures, r.few, c.requires.1), omega (arith, r.fits, c.requires.3))

pub write_entries-end-requires : goal.write_entries-end-requires
write_entries-end-requires c =
    let pre = c.requires in
    let r = room_of _ _ pre.2 c.entry_set-a.ensures c.entry_set-b.ensures in
    (pre.1, pack_of_lem _ _ _ pre.2.first c.entry_set-a.ensures, pack_of_lem _ _ _ pre.2.second c.entry_set-b.ensures, omega (arith, r.fits, pre.3, c.write_pack_head-start.ensures.1, c.write_pack_head-start.auto))

pub overflow_cast-result : goal.overflow_cast-result
overflow_cast-result c =
    let r = room_of _ _ c.requires.2 c.entry_set-a.ensures c.entry_set-b.ensures in
    omega (arith, r.fits, joined-out_figure c.args.n, c.requires.1, c.write_pack_head-start.ensures.1, c.write_entries-end.ensures.1)

pub returns : goal.returns
returns c =
    let r = room_of _ _ c.requires.2 c.entry_set-a.ensures c.entry_set-b.ensures in
    joined-written _ _ _ _ c.entry_set-a.ensures c.entry_set-b.ensures r.below (c.size-count.ensures ∙ ap (λ (x : ℕ). size x) c.union.ensures) c.write_pack_head-start.ensures.0 c.write_entries-end.ensures.0
