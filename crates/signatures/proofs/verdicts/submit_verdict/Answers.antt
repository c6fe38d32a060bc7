use Rattle.std.proofs.Common.{◌≡◌, ◌∙◌, arith}
use Rattle.protocol.specs.Layout.{signature_length, seat_at, submit_length}
use Rattle.protocol.specs.Message.{byte_at}
use Rattle.signatures.specs.EntriesLaws.{submit-row}
use Rattle.signatures.proofs.verdicts.submit_verdict.Goals as goal

pub number_at-seat-requires : goal.number_at-seat-requires
unfolding submit_length signature_length
number_at-seat-requires c = omega arith

pub place_verdict-requires : goal.place_verdict-requires
unfolding submit_length signature_length
place_verdict-requires c =
    let seat : c.number_at-seat.result ≡ byte_at c.args.m.now seat_at = c.number_at-seat.ensures.0 ∙ rw c.seat_at.ensures in
    (rw seat c.requires.known, (omega arith, omega arith))

pub returns : goal.returns
returns c = search submit-row
