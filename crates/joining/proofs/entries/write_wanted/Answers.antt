use Rattle.std.proofs.Common.{◌≡◌, true, false, sym, ◌∙◌, arith}
use Rattle.quorum.specs.Quorum.{has}
use Rattle.quorum.specs.QuorumLaws.{has_true}
use Rattle.octets.specs.WriteLaws.{patch_none}
use Rattle.joining.specs.Packs.{wanted_entry}
use Rattle.joining.proofs.entries.write_wanted.Goals as goal

pub returns-then-not-has : goal.returns-then-not-has
unfolding wanted_entry
returns-then-not-has c =
    let none : has c.args.seat c.args.wanted ≡ false = sym c.has.ensures ∙ c.if-not-has.true in
    rw none (record { ends = omega arith; wrote = patch_none _ _ })

pub entry_of-requires : goal.entry_of-requires
entry_of-requires c =
    let pre = c.requires in
    (pre.0, pre.1, pre.3 ((has_true _ _).0 (sym c.has.ensures ∙ c.if-not-has.false)), pre.2)

pub put-requires : goal.put-requires
put-requires c = omega (arith, c.entry_of.ensures.1, c.requires.4 ((has_true _ _).0 (sym c.has.ensures ∙ c.if-not-has.false)))

pub returns : goal.returns
unfolding wanted_entry
returns c =
    let wanted : has c.args.seat c.args.wanted ≡ true = sym c.has.ensures ∙ c.if-not-has.false in
    rw (wanted, ← c.entry_of.ensures.0) c.put.ensures
