use Rattle.std.proofs.Common.{◌≡◌, ◌∙◌, ◌+◌, ◌<◌, ap, ℕ, List, arith, rules, get_or, length, take, drop}
use Rattle.std.proofs.lemmas.List.{get_or-take, get_or-drop}
use borrow.Rule.Slice.PartMut.{put_mid}
use Rattle.sha256_lanes.specs.Rows.{Same}
use Rattle.sha256_lanes.specs.RowsLaws.{copied_below, copied_at}
use Rattle.sha256_lanes.proofs.save.Goals as goal

part_word : (p : ℕ) (s ys : List ℕ) (l : ℕ) → ys ≡ take 16 (drop p s) → l < 16 → get_or ys l 0 ≡ get_or s (p + l) 0
part_word p s ys l e h = ap (λ (xs : List ℕ). get_or xs l 0) e ∙ get_or-take 16 (drop p s) l 0 h ∙ get_or-drop p s l 0

pub returns : goal.returns
unfolding Same
returns c =
    let x = c.args.x.now in
    let a = c.copy_from_slice.new.self in
    let e = c.copy_from_slice-2.new.self in
    let la : length a ≡ 16 = search rules in
    let le : length e ≡ 16 = search rules in
    let y = put_mid 64 16 x a in
    let ly : length y ≡ 96 = search rules in
    record {
      same = λ i h. copied_below 80 16 y e le (omega arith) i (omega arith) ∙ copied_below 64 16 x a la (omega arith) i h;
      by_index = λ l h. (
        copied_below 80 16 y e le (omega arith) (64 + l) (omega arith) ∙ copied_at 64 16 x a la (omega arith) l h
            ∙ part_word 928 _ a l c.copy_from_slice.ensures.after h,
        copied_at 80 16 y e le (omega arith) l h ∙ part_word 2016 _ e l c.copy_from_slice-2.ensures.after h,
      );
    }
