use Rattle.std.proofs.Common.{◌≡◌, length, replicate}
use Rattle.octets.specs.Octets.{patch}
use Rattle.fips180.specs.FipsLaws.{joined-pieces}
use Rattle.sha256.proofs.hash.joint.Goals as goal

pub returns : goal.returns
returns c =
    let a = c.args.a.now in
    let b = c.args.b.now in
    let wrote : c.copy-2.new.out ≡ patch (length a) b (patch 0 a (replicate 64 0)) = cc in
    rw wrote (joined-pieces a b (replicate 64 0) c.requires)
