use Rattle.zf_schema.proofs.Prelude.{ap, refl, subst, sym, told, globals_of, schema_of, Offence, offence_of, MarkAgrees, MarkClashes, marked, IsNext, Stops, OffendsRef}
use Rattle.zf_schema.proofs.Referring.{refers, cant_refer, lacks}
use Rattle.zf_schema.proofs.Stopping.{refused_by}
use Rattle.zf_schema.proofs.reference.referred.Goals as goal

pub returns-in_ok-decorate_own-in-Ok-marked-clause-ok : goal.returns-in_ok-decorate_own-in-Ok-marked-clause-ok
returns-in_ok-decorate_own-in-Ok-marked-clause-ok c =
    let r = c.args.reference.now in
    let a = schema_of c.in-Ok.schema.now in
    let m = schema_of c.in-Ok-marked.growing in
    let next = subst (λ l. IsNext (marked r.mark l a) m) (ap (λ n. n.span) c.name.view_is) c.in-Ok-marked.ensures.ok in
    refers (globals_of c.args.globals.now) r r.name.base c.strokes.result.now a m
    (schema_of c.in_ok-decorate_own-in-Ok-marked.field-0) c.in-Ok.ensures.ok refl c.strokes.ensures c.in-Ok-marked.ensures.agree next
    c.in_ok-decorate_own-in-Ok-marked.ensures

pub returns-in-Err-marked-clause-fault : goal.returns-in-Err-marked-clause-fault
returns-in-Err-marked-clause-fault c =
    let g = globals_of c.args.globals.now in
    let r = c.args.reference.now in
    let a = schema_of c.in-Ok.schema.now in
    let span = c.name.inside.span in
    let offends = subst (λ l. (k : Offence) → Stops (MarkClashes r.mark a) (MarkAgrees r.mark a) (marked r.mark l a) k
    → OffendsRef g r k l) (ap (λ n. n.span) (sym c.name.view_is)) (cant_refer g r r.name.base a c.in-Ok.ensures.ok refl) in
    refused_by c.in-Err-marked.stop span c.refusal.result (Stops (MarkClashes r.mark a) (MarkAgrees r.mark a) (marked r.mark span a))
    (OffendsRef g r) offends c.refusal.ensures c.in-Err-marked.ensures.err

pub returns-in-Err-clause-fault : goal.returns-in-Err-clause-fault
returns-in-Err-clause-fault c =
    let g = globals_of c.args.globals.now in
    let r = c.args.reference.now in
    let k = offence_of c.in-Err.offence in
    told c.refused_name.result k c.name.inside.span (OffendsRef g r) c.refused_name.ensures (subst (OffendsRef g r k) (ap (λ n. n.span) (sym c.name.view_is)) (lacks g r k c.in-Err.ensures.err))
