use Rattle.std.proofs.Common.{rules}
use Rattle.yard.specs.LineLaws.{text_first, text_then, number_fits, space_fits, written-fits, newline_fits, line-whole}
use Rattle.yard.proofs.line.line_of.Goals as goal

pub put_decimal-number_end-requires : goal.put_decimal-number_end-requires
put_decimal-number_end-requires c = number_fits c.args.number c.args.written (search rules) (search rules)

pub put_byte-start-requires : goal.put_byte-start-requires
put_byte-start-requires c =
    let number = c.put_decimal-number_end in
    space_fits c.args.number c.args.written (search rules) (search rules) _ _ (text_first _ _ _ number.ensures.0 number.ensures.1)

pub put_decimal-end-requires : goal.put_decimal-end-requires
put_decimal-end-requires c =
    let number = c.put_decimal-number_end in
    let space = c.put_byte-start in
    written-fits c.args.number c.args.written (search rules) (search rules) _ _
    (text_then _ _ _ _ _ _ (text_first _ _ _ number.ensures.0 number.ensures.1) space.ensures.0 space.ensures.1)

pub put_byte-length-requires : goal.put_byte-length-requires
put_byte-length-requires c =
    let number = c.put_decimal-number_end in
    let space = c.put_byte-start in
    let written = c.put_decimal-end in
    newline_fits c.args.number c.args.written (search rules) (search rules) _ _
    (text_then _ _ _ _ _ _ (text_then _ _ _ _ _ _ (text_first _ _ _ number.ensures.0 number.ensures.1) space.ensures.0 space.ensures.1)
    written.ensures.0 written.ensures.1)

pub returns : goal.returns
returns c =
    let number = c.put_decimal-number_end in
    let space = c.put_byte-start in
    let written = c.put_decimal-end in
    let newline = c.put_byte-length in
    line-whole c.args.number c.args.written (search rules) (search rules) _ _
    (text_then _ _ _ _ _ _
    (text_then _ _ _ _ _ _ (text_then _ _ _ _ _ _ (text_first _ _ _ number.ensures.0 number.ensures.1) space.ensures.0 space.ensures.1)
    written.ensures.0 written.ensures.1)
    newline.ensures.0 newline.ensures.1)
