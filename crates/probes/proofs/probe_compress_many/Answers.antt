use Rattle.std.proofs.Common.{◌∙◌}
use Rattle.probes.specs.ProbesLaws.{compress-short, state_garbled, block_garbled, compress-fits}
use Rattle.probes.proofs.probe_compress_many.Goals as goal

pub returns-then-out-lt32-clause-value : goal.returns-then-out-lt32-clause-value
returns-then-out-lt32-clause-value c =
    let a = c.args in
    c.number.ensures ∙ (compress-short a.count a.state.now a.block.now a.out.now c.if-out-lt32.true).0

pub returns-then-out-lt32-clause-out_after : goal.returns-then-out-lt32-clause-out_after
returns-then-out-lt32-clause-out_after c =
    let a = c.args in
    (compress-short a.count a.state.now a.block.now a.out.now c.if-out-lt32.true).1

pub returns-then-state-ne32-clause-value : goal.returns-then-state-ne32-clause-value
returns-then-state-ne32-clause-value c =
    let a = c.args in
    c.number-then-state-ne32.ensures ∙ (state_garbled a.count a.state.now a.block.now a.out.now c.if-out-lt32.false c.if-state-ne32.true).0

pub returns-then-state-ne32-clause-out_after : goal.returns-then-state-ne32-clause-out_after
returns-then-state-ne32-clause-out_after c =
    let a = c.args in
    (state_garbled a.count a.state.now a.block.now a.out.now c.if-out-lt32.false c.if-state-ne32.true).1

pub returns-then-block-ne64-clause-value : goal.returns-then-block-ne64-clause-value
returns-then-block-ne64-clause-value c =
    let a = c.args in
    c.number-then-block-ne64.ensures ∙ (block_garbled a.count a.state.now a.block.now a.out.now c.if-out-lt32.false c.if-state-ne32.false c.if-block-ne64.true).0

pub returns-then-block-ne64-clause-out_after : goal.returns-then-block-ne64-clause-out_after
returns-then-block-ne64-clause-out_after c =
    let a = c.args in
    (block_garbled a.count a.state.now a.block.now a.out.now c.if-out-lt32.false c.if-state-ne32.false c.if-block-ne64.true).1

pub returns-clause-value : goal.returns-clause-value
returns-clause-value c =
    let a = c.args in
    (compress-fits a.count a.state.now a.block.now a.out.now _ _ _ _ _ c.if-out-lt32.false c.if-state-ne32.false c.if-block-ne64.false c.words_at-h.ensures c.block_words-m.ensures c.compress_times-s.ensures c.digest-d.ensures c.copy.ensures).0

pub returns-clause-out_after : goal.returns-clause-out_after
returns-clause-out_after c =
    let a = c.args in
    (compress-fits a.count a.state.now a.block.now a.out.now _ _ _ _ _ c.if-out-lt32.false c.if-state-ne32.false c.if-block-ne64.false c.words_at-h.ensures c.block_words-m.ensures c.compress_times-s.ensures c.digest-d.ensures c.copy.ensures).1
