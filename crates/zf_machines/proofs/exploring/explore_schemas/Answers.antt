-- The exploration of the machine that the schemas make.
use Rattle.zf_machines.proofs.Prelude.{environment_of, schemas_of, always_on_err, weaker_on_err, weaker_if_ok, system_of, schema_of, inl, inr, Appends-nil}
use Rattle.zf_machines.proofs.exploring.explore_schemas.Goals as goal
use Rattle.zf_machines.proofs.Sole.{can_search_all}

pub returns-in_err-system-clause-err : goal.returns-in_err-system-clause-err
returns-in_err-system-clause-err g c = always_on_err _ (inl (Appends-nil _))

pub explore_flat-requires-clause-searchable : goal.explore_flat-requires-clause-searchable
explore_flat-requires-clause-searchable g c =
    let e = environment_of c.args.specification.now.env.now in
    can_search_all e c.args.specification.now.elements.now c.args.specification.now.form (schemas_of c.args.specification.now.schemas.now)
    (system_of e schema_of c.in_ok-system.system) (c.in_ok-system.ensures e) c.requires.searchable

pub returns-clause-ok : goal.returns-clause-ok
returns-clause-ok g c =
    let e = environment_of c.args.specification.now.env.now in
    weaker_if_ok c.explore_flat.result (λ ending h. (system_of e schema_of c.in_ok-system.system, c.in_ok-system.ensures e, h.0, h.1, h.2, h.3)) c.explore_flat.ensures.ok

pub returns-clause-err : goal.returns-clause-err
returns-clause-err g c =
    let e = environment_of c.args.specification.now.env.now in
    weaker_on_err c.explore_flat.result (λ stops. inr (system_of e schema_of c.in_ok-system.system, c.in_ok-system.ensures e, stops)) c.explore_flat.ensures.err
