-- The name and the size of a word, from what `split_once` answers.
use Rattle.zf_command.proofs.Prelude.{arith, nat_tests}
use Rattle.zf_command.proofs.SizeWords.{bad_unparted, bad_number, reads_parts}
use Rattle.zf_command.proofs.sizes.parts_of.Goals as goal

pub returns-in_err-name : goal.returns-in_err-name
returns-in_err-name c = rw c.from_residual.ensures (bad_unparted c.args.word.now c.in_err-name.ensures.cases)

pub returns-in_err-number_of : goal.returns-in_err-number_of
returns-in_err-number_of c = rw c.from_residual-in_err-number_of.ensures (bad_number c.args.word.now (c.in_ok-name.name, c.in_ok-name.digits) c.in_ok-name.ensures.cases c.in_err-number_of.ensures)

pub returns : goal.returns
returns c = reads_parts c.args.word.now (c.in_ok-name.name, c.in_ok-name.digits) c.in_ok-name.ensures.cases c.in_ok-number_of.field-0 (λ e. grind (arith, nat_tests)) c.in_ok-number_of.ensures
