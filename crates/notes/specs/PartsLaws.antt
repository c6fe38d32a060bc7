-- A note from the writes of its parts, one after another.
-- Assumes nothing.
use Rattle.std.specs.Prelude.{◌≡◌, List, [], ◌∷◌, ◌++◌, ℕ, ◌≤◌, length, set}
use Rattle.std.proofs.Common.{refl, sym, ap, ◌∙◌, append_assoc, arith, length-append}
use Rattle.std.proofs.lemmas.List.{set_split}
use Rattle.std.proofs.lemmas.List.Edits.{sets-eq}
use borrow.Rule.Slice.PartMut.{put_mid}
use Rattle.octets.specs.Octets.{patch, be}
use Rattle.octets.specs.OctetsLaws.{length-be, length-patch, patch-mid}
use Rattle.octets.specs.WriteLaws.{patch_next}
use Rattle.protocol.specs.Layout.{mask_length, note_own_value_at, note_collected_at, note_kept_at, note_first_at, note_guilty_at, note_heard_value_at, note_first_value_at}
use Rattle.protocol.specs.Note.{render_note, ValuesSized}
use Rattle.protocol.specs.declared.Record.{Record}
use Rattle.notes.specs.Parts.{note_start, note_masks}

-- the round's two bytes in the midst of four stores
pub start-written : (n seat round flags : ℕ) (xs : List ℕ) {ys : List ℕ} → note_own_value_at ≤ length xs → ys ≡ be 2 round
    → set (put_mid 3 2 (set (set (set xs 0 0x20) 1 n) 2 seat) ys) 5 flags ≡ patch 0 (0x20 ∷ n ∷ seat ∷ be 2 round ++ flags ∷ []) xs
unfolding patch
start-written n seat round flags xs {ys} h p =
    let start = 0x20 ∷ n ∷ seat ∷ [] in
    let a = set (set (set xs 0 0x20) 1 n) 2 seat in
    let b = put_mid 3 2 a ys in
    let two : b ≡ patch 0 (start ++ be 2 round) xs =
    patch_next 0 3 start (be 2 round) xs a b (sets-eq start xs 0 (omega arith)) refl (omega arith) (patch-mid 3 2 (be 2 round) ys a p (sym (length-be 2 round))) in
    let room = ap length two ∙ length-patch 0 (start ++ be 2 round) xs (omega (arith, length-be 2 round)) in
    patch_next 0 5 (start ++ be 2 round) (flags ∷ []) xs b (set b 5 flags) two (simp length-be) (omega arith) (set_split b 5 flags (omega (arith, room)))

-- the masks, one after another
pub masks-written : (r : Record) (xs : List ℕ) {a b c d : List ℕ} → note_collected_at ≤ length xs
    → a ≡ patch note_collected_at (be mask_length r.own.collected) xs
    → b ≡ patch note_kept_at (be mask_length r.kept) a
    → c ≡ patch note_first_at (be mask_length r.first.seats) b
    → d ≡ patch note_guilty_at (be mask_length r.guilty) c
    → d ≡ patch note_collected_at (note_masks r) xs
masks-written r xs {a} {b} {c} {d} h p q s t =
    let at = note_collected_at in
    let two = patch_next at note_kept_at _ _ xs a b p (rw length-be) h q in
    let three = patch_next at note_first_at _ _ xs b c two (simp (length-append, length-be)) h s in
    patch_next at note_guilty_at _ _ xs c d three (simp (length-append, length-be)) h t

regrouped : (p a b c d : List ℕ) → p ++ (a ++ b ++ c ++ d) ≡ p ++ a ++ b ++ c ++ d
regrouped p a b c d = simp append_assoc

module _ {r : Record} (sized : ValuesSized r) where
  -- the five parts, one after another
  pub parts-written : (xs : List ℕ) {a b c d e : List ℕ}
      → a ≡ patch 0 (note_start r) xs
      → b ≡ patch note_own_value_at r.own.value a
      → c ≡ patch note_collected_at (note_masks r) b
      → d ≡ patch note_heard_value_at r.notices.value c
      → e ≡ patch note_first_value_at r.first.value d
      → e ≡ patch 0 (render_note r) xs
  unfolding render_note
  parts-written xs {a} {b} {c} {d} {e} p q s t u =
      let start = note_start r in
      let two = patch_next 0 note_own_value_at start _ xs a b p (simp (length-append, length-be)) (omega arith) q in
      let three = patch_next 0 note_collected_at _ (note_masks r) xs b c two (simp (length-append, length-be, sized.own)) (omega arith) s in
      let front = rw regrouped at three in
      let four = patch_next 0 note_heard_value_at _ _ xs c d front (simp (length-append, length-be, sized.own)) (omega arith) t in
      patch_next 0 note_first_value_at _ _ xs d e four (simp (length-append, length-be, sized.own, sized.heard)) (omega arith) u
