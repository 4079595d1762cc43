use Rattle.zf_schema.proofs.Prelude.{map, subst, decl_of, globals_of, schema_of, Declares}
use Rattle.zf_schema.proofs.text.growing_text.Goals as goal

pub returns-clause-ok : goal.returns-clause-ok
returns-clause-ok c =
    let x = schema_of c.declare_all.new.growing in
    (x, subst (λ s. Declares (globals_of c.args.globals.now) s (map decl_of c.args.decls.now) x) c.in_ok-growing.ensures c.in_ok-declare_all.ensures.ok, c.in_ok-constrain_all.ensures.ok)
