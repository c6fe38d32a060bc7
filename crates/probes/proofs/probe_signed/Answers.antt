use Rattle.std.proofs.Common.{◌∙◌}
use Rattle.probes.specs.ProbesLaws.{signed-short, id_garbled, seed_garbled, digits_garbled, signed-fits}
use Rattle.probes.proofs.probe_signed.Goals as goal

pub returns-then-out-lt1088-clause-value : goal.returns-then-out-lt1088-clause-value
returns-then-out-lt1088-clause-value c =
    let a = c.args in
    c.number.ensures ∙ (signed-short a.q a.id.now a.seed.now a.digits.now a.out.now c.if-out-lt1088.true).0

pub returns-then-out-lt1088-clause-out_after : goal.returns-then-out-lt1088-clause-out_after
returns-then-out-lt1088-clause-out_after c =
    let a = c.args in
    (signed-short a.q a.id.now a.seed.now a.digits.now a.out.now c.if-out-lt1088.true).1

pub returns-then-id-ne16-clause-value : goal.returns-then-id-ne16-clause-value
returns-then-id-ne16-clause-value c =
    let a = c.args in
    c.number-then-id-ne16.ensures ∙ (id_garbled a.q a.id.now a.seed.now a.digits.now a.out.now c.if-out-lt1088.false c.if-id-ne16.true).0

pub returns-then-id-ne16-clause-out_after : goal.returns-then-id-ne16-clause-out_after
returns-then-id-ne16-clause-out_after c =
    let a = c.args in
    (id_garbled a.q a.id.now a.seed.now a.digits.now a.out.now c.if-out-lt1088.false c.if-id-ne16.true).1

pub returns-then-seed-ne32-clause-value : goal.returns-then-seed-ne32-clause-value
returns-then-seed-ne32-clause-value c =
    let a = c.args in
    c.number-then-seed-ne32.ensures ∙ (seed_garbled a.q a.id.now a.seed.now a.digits.now a.out.now c.if-out-lt1088.false c.if-id-ne16.false c.if-seed-ne32.true).0

pub returns-then-seed-ne32-clause-out_after : goal.returns-then-seed-ne32-clause-out_after
returns-then-seed-ne32-clause-out_after c =
    let a = c.args in
    (seed_garbled a.q a.id.now a.seed.now a.digits.now a.out.now c.if-out-lt1088.false c.if-id-ne16.false c.if-seed-ne32.true).1

pub returns-then-digits-ne34-clause-value : goal.returns-then-digits-ne34-clause-value
returns-then-digits-ne34-clause-value c =
    let a = c.args in
    c.number-then-digits-ne34.ensures ∙ (digits_garbled a.q a.id.now a.seed.now a.digits.now a.out.now c.if-out-lt1088.false c.if-id-ne16.false c.if-seed-ne32.false c.if-digits-ne34.true).0

pub returns-then-digits-ne34-clause-out_after : goal.returns-then-digits-ne34-clause-out_after
returns-then-digits-ne34-clause-out_after c =
    let a = c.args in
    (digits_garbled a.q a.id.now a.seed.now a.digits.now a.out.now c.if-out-lt1088.false c.if-id-ne16.false c.if-seed-ne32.false c.if-digits-ne34.true).1

pub returns-clause-value : goal.returns-clause-value
returns-clause-value c =
    let a = c.args in
    (signed-fits a.q a.id.now a.seed.now a.digits.now a.out.now _ _ _ c.if-out-lt1088.false c.if-id-ne16.false c.if-seed-ne32.false c.if-digits-ne34.false c.words_at-i.ensures c.words_at-s.ensures (rw c.copy_from_slice.ensures.after at c.write_signed.ensures)).0

pub returns-clause-out_after : goal.returns-clause-out_after
returns-clause-out_after c =
    let a = c.args in
    (signed-fits a.q a.id.now a.seed.now a.digits.now a.out.now _ _ _ c.if-out-lt1088.false c.if-id-ne16.false c.if-seed-ne32.false c.if-digits-ne34.false c.words_at-i.ensures c.words_at-s.ensures (rw c.copy_from_slice.ensures.after at c.write_signed.ensures)).1
