use Rattle.std.proofs.Common.{sym, ◌∙◌, arith}
use Rattle.protocol.specs.EntriesLaws.{passed_none, passed_next, passed_all}
use Rattle.signatures.specs.KeysLaws.{keys_length, keys_not, keys_all}
use Rattle.signatures.proofs.keys.wrong_keys.Goals as goal

pub returns-then-keys-key_at : goal.returns-then-keys-key_at
returns-then-keys-key_at c = keys_length c.args.keys.now c.args.n (λ e. c.if-keys-key_at.true (e ∙ sym c.key_at.ensures))

pub loop-seat-init : goal.loop-seat-init
loop-seat-init c = passed_none

pub returns-then-not-key_allowed : goal.returns-then-not-key_allowed
returns-then-not-key_allowed c =
    keys_not c.args.keys.now c.args.n (c.if-keys-key_at.false ∙ c.key_at.ensures) c.loop-seat.seat (omega arith) (sym c.key_allowed.ensures ∙ c.if-not-key_allowed.true)

pub loop-seat-preserved : goal.loop-seat-preserved
loop-seat-preserved c = passed_next c.loop-seat.invariant (omega arith) (sym c.key_allowed.ensures ∙ c.if-not-key_allowed.false)

pub returns : goal.returns
returns c =
    keys_all c.args.keys.now c.args.n (c.if-keys-key_at.false ∙ c.key_at.ensures) (passed_all c.loop-seat.invariant (omega arith))
