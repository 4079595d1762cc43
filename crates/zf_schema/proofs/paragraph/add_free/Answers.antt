use Rattle.zf_schema.proofs.Prelude.{arith, globals_of}
use Rattle.zf_schema.proofs.Beginning.{begins_one_more, begins_through, one_longer}
use Rattle.zf_schema.proofs.paragraph.add_free.Goals as goal

pub returns-clause-begun : goal.returns-clause-begun
returns-clause-begun c =
    let g = globals_of c.args.globals.now in
    let h = globals_of c.add_name.new.globals in
    let longer = one_longer g h _ c.in_ok-add_name.ensures.ok in
    begins_through g h (globals_of c.add_constructors.new.globals) (omega (arith, longer)) (begins_one_more g h _ c.in_ok-add_name.ensures.ok) c.add_constructors.ensures.begun
