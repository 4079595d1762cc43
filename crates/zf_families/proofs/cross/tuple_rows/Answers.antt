use Rattle.zf_families.proofs.Prelude.{◌∙◌, sym, SET_MAX}
use Rattle.zf_families.proofs.Tuples.{no_tuples}
use Rattle.zf_families.proofs.cross.tuple_rows.Goals as goal

pub returns-then-size-eq0-clause-is : goal.returns-then-size-eq0-clause-is
returns-then-size-eq0-clause-is c = c.new.ensures.items ∙ sym (no_tuples c.args.sets.now c.size.result SET_MAX c.size.ensures.is c.if-size-eq0.true)
