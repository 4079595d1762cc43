use Rattle.zf_machines.proofs.Prelude.{inl, map, subst, AllByRecursion, CanStep, LacksStepFirst, named_of, schemas_of, before_of}
use Rattle.zf_machines.proofs.Lacking.{behind_by}
use Rattle.zf_machines.proofs.shape.later_lack.Goals as goal

pub returns-in-Some : goal.returns-in-Some
returns-in-Some c =
    let state = before_of c.args.states in
    let lack = c.in-Some.lack in
    inl (subst (λ os. LacksStepFirst state (map named_of os) lack.schema.now lack.component.now) c.deref.ensures.value c.in-Some.ensures)

pub returns-in-None : goal.returns-in-None
returns-in-None c =
    let state = before_of c.args.states in
    behind_by state (schemas_of c.args.schemas.now) c.sought_lack.result
    (subst (λ os. AllByRecursion (CanStep state) (map named_of os)) c.deref.ensures.value c.in-None.ensures) c.sought_lack.ensures
