use Rattle.std.proofs.Common.{◌≡◌, ℕ, arith}
use Rattle.quorum.specs.Quorum.{k, In, shared}
use Rattle.protocol.specs.Layout.{signature_length, evidence_entry_length, evidence_entry_at, evidence_length, evidence_out_length}
use Rattle.wire_write.specs.WritingLaws.{shared-seats, shared-room}
use Rattle.evidence.specs.MakingLaws.{sound-formed, wrote-evidence}
use Rattle.evidence.proofs.certificates.write_conflict.Goals as goal

pub certificate-a-requires : goal.certificate-a-requires
certificate-a-requires c = (c.requires.0, c.requires.1, sound-formed _ c.requires.2.first)

pub certificate-b-requires : goal.certificate-b-requires
certificate-b-requires c = (c.requires.0, c.requires.1, sound-formed _ c.requires.2.second)

-- the seats to write are those of both
abbrev among : (a b mask : ℕ) → mask ≡ shared a b → (s : ℕ) → In s mask → In s (shared a b)
among a b mask e s i = rw e at i

pub write_evidence-requires : goal.write_evidence-requires
unfolding evidence_out_length
write_evidence-requires c =
    let a = c.certificate-a.ensures in
    let b = c.certificate-b.ensures in
    let both = among _ _ _ c.shared-mask.ensures in
    let seats = shared-seats _ _ _ _ both a.0.inside in
    (c.requires.1, a.0, b.0, seats.0, seats.1, seats.2, omega (arith, shared-room c.args.n _ _ _ both (omega (arith, a.1)), c.requires.3))

pub overflow_cast-result : goal.overflow_cast-result
unfolding evidence_length evidence_entry_at evidence_entry_length signature_length k
overflow_cast-result c =
    let both = among _ _ _ c.shared-mask.ensures in
    omega (arith, shared-room c.args.n _ _ _ both (omega (arith, c.certificate-a.ensures.1)), c.write_evidence.ensures.1)

pub returns : goal.returns
returns c =
    let a = c.certificate-a.ensures in
    let b = c.certificate-b.ensures in
    wrote-evidence _ _ _ c.shared-mask.ensures a.2 b.2 c.write_evidence.ensures.0
