use Rattle.std.proofs.Common.{◌+◌, ◌≤◌, length, ap, ◌∙◌, arith, rules}
use Rattle.octets.specs.OctetsLaws.{length_part}
use Rattle.protocol.specs.Layout.{signature_length}
use Rattle.protocol.specs.Message.{read_signature}
use Rattle.signatures.proofs.verdicts.place_verdict.Goals as goal

pub seat_verdict-requires : goal.seat_verdict-requires
unfolding read_signature
seat_verdict-requires c =
    let m = c.args.m.now in
    let at = c.args.place.signature in
    let room : at + signature_length ≤ length m = omega arith in
    (c.requires.0, search rules, ap length c.signature_at-signature.ensures ∙ length_part at signature_length m room)
