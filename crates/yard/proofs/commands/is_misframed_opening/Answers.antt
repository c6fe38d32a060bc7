use Rattle.std.proofs.Common.{◌∙◌}
use Rattle.std.proofs.lemmas.Bool.{lt-ltb}
use Rattle.yard.specs.CommandsLaws.{opening-short, opening-whole}
use Rattle.yard.proofs.commands.is_misframed_opening.Goals as goal

pub returns-then-bytes-opening_length : goal.returns-then-bytes-opening_length
returns-then-bytes-opening_length c =
    lt-ltb _ _ c.if-bytes-opening_length.true ∙ opening-short c.args.bytes.now c.opening_length.result c.opening_length.ensures.0 c.if-bytes-opening_length.true

pub returns-else-bytes-opening_length : goal.returns-else-bytes-opening_length
returns-else-bytes-opening_length c =
    opening-whole c.args.bytes.now c.opening_length.result c.byte_or_zero.result c.opening_length.ensures.0 c.if-bytes-opening_length.false c.byte_or_zero.ensures.0
