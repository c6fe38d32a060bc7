use Rattle.std.proofs.Common.{◌≡◌, ◌+◌, ◌-◌, arith, rules}
use Rattle.octets.specs.Octets.{part}
use Rattle.protocol.specs.Layout.{key_length}
use Rattle.protocol.specs.Signatures.{seat_key}
use Rattle.signatures.specs.KeysLaws.{key_inside, key_right}
use Rattle.signatures.proofs.fleet.Fleet.seat_key.Goals as goal

pub slice_bounds-result-end : goal.slice_bounds-result-end
slice_bounds-result-end c =
    let inside = key_inside c.args.self.keys.now c.args.self.n c.args.seat c.args.self.given.table c.requires in
    search rules

pub returns : goal.returns
unfolding seat_key part
returns c =
    let at = c.key_at-start in
    let long : at.result + c.key_length.result - at.result ≡ key_length = omega arith in
    let right = key_right c.args.self.keys.now c.args.self.n c.args.seat c.args.self.given.table c.requires in
    (rw (long, at.ensures), rw (long, at.ensures) right)
