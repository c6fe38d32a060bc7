use Rattle.std.proofs.Common.{◌≡◌, ◌∙◌, ap, arith, rules, ⊎_elim, ℕ, List, get_or, length}
use Rattle.sha256_lanes.specs.RowsLaws.{length-copied, copied_below, copied_at, copied-above}
use Rattle.lmots_chains.proofs.sixteen.put_numbers.Goals as goal

pub returns : goal.returns
returns c =
    let w = c.args.w.now in
    let ys = c.copy_from_slice.new.self in
    let long : length ys ≡ 16 = search rules in
    record {
      long = omega (arith, length-copied 64 16 w ys long (omega arith));
      new = λ i h. copied_at 64 16 w ys long (omega arith) i h ∙ ap (λ (l : List ℕ). get_or l i 0) c.copy_from_slice.ensures.after;
      old = λ i h. ⊎_elim (copied_below 64 16 w ys long (omega arith) i) (copied-above 64 16 w ys long (omega arith) i) h;
    }
