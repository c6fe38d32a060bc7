use Rattle.std.proofs.Common.{◌≡◌, ap, ℕ, ◌-◌, length, take, drop, inl, inr, arith, rules, lt-ltb, le-ltb}
use Rattle.std.proofs.Math.Nat.{sub-zero}
use Rattle.dispatch.specs.Dispatcher.{wrong_order, serving}
use Rattle.dispatch.specs.declared.Dispatcher.{Dispatcher}
use Rattle.dispatcher.proofs.possible.wrong_order.Goals as goal

-- the order's part up to `served`
part : (d : Dispatcher) → take (d.served - 0) (drop 0 d.order) ≡ serving d
unfolding serving
part d = ap (λ (n : ℕ). take n d.order) (sub-zero d.served)

pub returns-in_default : goal.returns-in_default
unfolding wrong_order
returns-in_default c =
    let eight : length c.args.d.now.order ≡ 8 = search rules in
    elim c.in_default.ensures.lookup.0 [
      | inl h ↦ absurd (omega (arith, h))
      | inr h ↦ rw (lt-ltb 8 c.args.d.now.served (omega (arith, h, eight)))
    ]

pub returns-then-some_above : goal.returns-then-some_above
unfolding wrong_order
returns-then-some_above c =
    let eight : length c.args.d.now.order ≡ 8 = search rules in
    let found = c.in-Some.ensures.lookup.0 in
    rw (le-ltb 8 c.args.d.now.served (omega (arith, found.1, eight)), ← part c.args.d.now, ← found.2, ← c.some_above.ensures, c.if-some_above.true)

pub returns-else-some_above : goal.returns-else-some_above
unfolding wrong_order
returns-else-some_above c =
    let eight : length c.args.d.now.order ≡ 8 = search rules in
    let found = c.in-Some.ensures.lookup.0 in
    rw (
      le-ltb 8 c.args.d.now.served (omega (arith, found.1, eight)),
      ← part c.args.d.now,
      ← found.2,
      ← c.some_above.ensures,
      c.if-some_above.false,
      ← c.is_distinct.ensures,
    )
