use Rattle.zf_schema.proofs.Prelude.{ap, subst, sym, include, globals_of, schema_of, Offence, Agree, conjoined, OneClashes, Stops, CantDeclare}
use Rattle.zf_schema.proofs.Stopping.{refused_by}
use Rattle.zf_schema.proofs.Texts.{cant_include}
use Rattle.zf_schema.proofs.text.include.Goals as goal

pub returns-in-Err-clause-wrong : goal.returns-in-Err-clause-wrong
returns-in-Err-clause-wrong c =
    let g = globals_of c.args.globals.now in
    let a = schema_of c.args.growing.now in
    let b = schema_of c.in_ok-other.other in
    let r = c.args.reference.now in
    let stops = Stops (OneClashes a.comps b.comps) (Agree a.comps b.comps) (conjoined a b) in
    let offends = subst (λ l. (k : Offence) → stops k → CantDeclare g a (include r) k l) (ap (λ m. m.name.span) (sym c.reference.view_is)) (cant_include g a r b c.in_ok-other.ensures.ok) in
    refused_by c.in-Err.stop _ c.refusal.result stops (CantDeclare g a (include r)) offends c.refusal.ensures c.in-Err.ensures.err

pub returns-in-Ok-clause-ok : goal.returns-in-Ok-clause-ok
returns-in-Ok-clause-ok c = (schema_of c.in_ok-other.other, c.in_ok-other.ensures.ok, c.in-Ok.ensures.ok)
