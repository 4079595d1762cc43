use Rattle.zf_enum.proofs.Prelude.{◌<◌, arith, resolved_of, ltb-true}
use Rattle.zf_enum.proofs.Dues.{used_up_to}
use Rattle.zf_enum.proofs.due.needs_first.Goals as goal

pub returns-in-None : goal.returns-in-None
returns-in-None c = λ t k l u. let p = used_up_to (resolved_of c.args.term.now) k c.args.components (omega (arith, l)) u in absurd (omega (arith, p, c.in-None.ensures))

pub returns-in-Some : goal.returns-in-Some
returns-in-Some c = λ t k l u. let p = used_up_to (resolved_of c.args.term.now) k c.args.components
    (omega (arith, l)) u in let q : c.in-Some.place < c.args.first = ltb-true c.in-Some.place c.args.first t in omega (arith, p, c.in-Some.ensures, q)
