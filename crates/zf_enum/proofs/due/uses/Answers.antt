use Rattle.zf_enum.proofs.Prelude.{arith, sym, resolved_of}
use Rattle.zf_enum.proofs.Dues.{uses_none, uses_found}
use Rattle.zf_enum.proofs.due.uses.Goals as goal

pub returns-in-None : goal.returns-in-None
returns-in-None c = sym (uses_none (resolved_of c.args.term.now) c.args.component (omega (arith, c.in-None.ensures)))

pub returns-in-Some : goal.returns-in-Some
returns-in-Some c = sym (uses_found (resolved_of c.args.term.now) c.args.component c.in-Some.place (omega (arith, c.in-Some.ensures)))
