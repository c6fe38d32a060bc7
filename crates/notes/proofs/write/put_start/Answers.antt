use Rattle.std.proofs.Common.{sym, ap, ◌∙◌, ℕ, List, take, drop, arith}
use Rattle.octets.specs.StringsLaws.{be-two}
use Rattle.protocol.specs.Layout.{note_length}
use Rattle.notes.specs.PartsLaws.{start-written}
use Rattle.notes.proofs.write.put_start.Goals as goal

pub returns : goal.returns
unfolding note_length
returns c =
    let round = c.copy_from_slice.ensures.after ∙ ap (λ (l : List ℕ). take 2 (drop 2 l)) c.to_be_bytes.ensures ∙ sym (be-two c.args.r.round) in
    rw (← c.flags_of-flags.ensures.0) (start-written c.args.r.n c.args.r.seat c.args.r.round c.flags_of-flags.result c.args.out.now (omega (arith, c.requires)) round)
