-- The number of a numeral, from what `parse` answers.
use Rattle.std.specs.declared.num.ParseIntError.{ParseIntError}
use Rattle.zf_command.proofs.Numbers.{reads_parsed, reads_past}
use Rattle.zf_command.proofs.numerals.number_of.Goals as goal

pub returns-in-Ok : goal.returns-in-Ok
returns-in-Ok c = reads_parsed ParseIntError c.args.digits.now c.in-Ok.number c.in-Ok.ensures.value.0 (c.is_numeral.ensures.0 c.if-not-is_numeral.false)

pub returns-in-Err : goal.returns-in-Err
returns-in-Err c = reads_past ParseIntError c.args.digits.now c.in-Err.field-0 c.in-Err.ensures.value.0 (c.is_numeral.ensures.0 c.if-not-is_numeral.false)
