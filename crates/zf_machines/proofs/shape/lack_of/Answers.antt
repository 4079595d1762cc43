use Rattle.zf_machines.proofs.Prelude.{inl, List, map, refl, subst, AllByRecursion, MatchOption, AllowsSought, CanBeInitial, CanStep, LacksBehind, schemas_of, LacksInit, Component, comp_of, schema_of}
use Rattle.zf_machines.proofs.Lacking.{shape_by}
use Rattle.zf_machines.proofs.shape.lack_of.Goals as goal

pub returns-in-Some : goal.returns-in-Some
returns-in-Some c =
    let p = c.args.schemas.now in
    inl (refl, subst (λ (ks : List Component). LacksInit (map comp_of ks) (schema_of p.init.schema.now) c.in-Some.component.now) c.as_slice-before.ensures c.in-Some.ensures)

pub returns-in-None : goal.returns-in-None
returns-in-None c =
    let p = schemas_of c.args.schemas.now in
    let whole = c.as_slice-before.ensures in
    shape_by p c.later_lack.result
    (subst (λ (ks : List Component). CanBeInitial (map comp_of ks) p.init.schema) whole c.in-None.ensures)
    (subst (λ (ks : List Component). MatchOption c.later_lack.result (AllByRecursion (CanStep (map comp_of ks)) p.operations × AllowsSought (map comp_of ks) p.sought)
    (λ k. LacksBehind (map comp_of ks) p k.schema.now k.component.now)) whole c.later_lack.ensures)
