use Rattle.std.proofs.Common.{◌≡◌, ◌∙◌, arith}
use Rattle.yard.specs.Line.{decimal}
use Rattle.yard.specs.LineLaws.{decimal_printed}
use Rattle.yard.proofs.line.put_decimal.Goals as goal

pub copy-requires : goal.copy-requires
copy-requires c =
    let wrote : c.as_bytes-digits.result.now ≡ decimal c.args.x = c.as_bytes-digits.ensures.value ∙ c.format.ensures.text ∙ decimal_printed c.args.x (omega arith) in
    rw wrote c.requires

pub returns : goal.returns
returns c =
    let wrote : c.as_bytes-digits.result.now ≡ decimal c.args.x = c.as_bytes-digits.ensures.value ∙ c.format.ensures.text ∙ decimal_printed c.args.x (omega arith) in
    (rw (c.copy.ensures, wrote), rw wrote)
