use Rattle.std.proofs.Common.{sym, refl, ◌≡◌, ◌*◌, ◌∙◌, arith, rules}
use Rattle.std.proofs.lemmas.List.{length-replicate}
use Rattle.octets.specs.Octets.{part, words}
use Rattle.octets.specs.OctetsLaws.{whole_from_take, word_at-part, words_next}
use Rattle.octets.proofs.words_at.Goals as goal

pub loop-t-init : goal.loop-t-init
unfolding words
loop-t-init g c = record { long = length-replicate _ 0; filled = refl }

pub loop-t-preserved : goal.loop-t-preserved
loop-t-preserved g c =
    let at = c.args.at in
    let read = c.word_at.ensures ∙ sym (word_at-part at (4 * g.row.N) (4 * c.loop-t.t) c.args.m.now (omega arith)) in
    record {
      long = search rules;
      filled = words_next _ _ _ _ c.loop-t.invariant.filled (omega arith) read;
    }

pub returns : goal.returns
returns g c =
    let all : c.loop-t.t ≡ g.row.N = omega arith in
    whole_from_take _ (λ t. words t (part c.args.at (4 * g.row.N) c.args.m.now)) _ _ all c.loop-t.invariant.long c.loop-t.invariant.filled
