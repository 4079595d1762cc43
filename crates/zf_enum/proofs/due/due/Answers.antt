use Rattle.zf_enum.proofs.Prelude.{◌-◌, ◌^◌, arith, resolved_of}
use Rattle.zf_enum.proofs.Dues.{due_need}
use Rattle.zf_enum.proofs.due.due.Goals as goal

pub overflow_add-result : goal.overflow_add-result
overflow_add-result c = omega (arith, due_need (2 ^ 64 - 1) (resolved_of c.args.term.now) (omega (arith, c.requires)), c.in-Some.ensures, c.requires)

pub returns-in-None : goal.returns-in-None
returns-in-None c = omega (arith, due_need (2 ^ 64 - 1) (resolved_of c.args.term.now) (omega (arith, c.requires)), c.in-None.ensures)

pub returns-in-Some : goal.returns-in-Some
returns-in-Some c = omega (arith, due_need (2 ^ 64 - 1) (resolved_of c.args.term.now) (omega (arith, c.requires)), c.in-Some.ensures)
