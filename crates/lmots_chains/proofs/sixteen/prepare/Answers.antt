use Rattle.std.proofs.Common.{rules, refl, ℕ, get_or, Fits, w32}
use Rattle.lmots_chains.specs.SixteenLaws.{unnumbered, no_place, ready_by}
use Rattle.lmots_chains.proofs.sixteen.prepare.Goals as goal

pub begin-requires : goal.begin-requires
unfolding unnumbered
begin-requires c = no_place c.args.id c.args.leaves _ _ _ refl c.spread.ensures c.put_numbers.ensures

pub returns : goal.returns
unfolding unnumbered
returns c =
    let word : (i : ℕ) → Fits w32 (get_or c.args.id i 0) = λ i. search rules in
    let leaf : (i : ℕ) → Fits w32 (get_or c.args.leaves i 0) = λ i. search rules in
    rw c.begin.ensures.same
    (ready_by c.args.id c.args.leaves _ _ c.put_numbers.new.w refl c.spread.ensures c.put_numbers.ensures c.begin.new.self.shares
    c.begin.new.self.state (search rules) (λ i. (word i).fits) (λ i. (leaf i).fits)
    (rw (c.begin.ensures.same, c.initial_value-h.ensures) at c.begin.ensures.common))
