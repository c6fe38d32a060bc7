use Rattle.std.proofs.Common.{arith}
use Rattle.yard.specs.CommandsLaws.{called_message, called_submit, called_other}
use Rattle.yard.proofs.commands.call_of.Goals as goal

pub returns-in-17 : goal.returns-in-17
returns-in-17 c = called_message c.args.bytes.now c.byte_or_zero.result c.byte_or_zero.ensures.0 c.in-17.is

pub returns-in-18 : goal.returns-in-18
returns-in-18 c = called_submit c.args.bytes.now c.byte_or_zero.result c.byte_or_zero.ensures.0 c.in-18.is

pub returns-in_default : goal.returns-in_default
returns-in_default c = called_other c.args.bytes.now c.byte_or_zero.result c.byte_or_zero.ensures.0 (omega arith) (omega arith)
