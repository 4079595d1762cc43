-- The searches fit.
use Rattle.zf_steps.proofs.Prelude.{◌∙◌, ap, map, subst, sym, AllByRecursion, AreFor, CanSearch, IsFor, Operation, operation_of, system_of, environment_of, schema_of}
use Rattle.zf_steps.proofs.Fitting.{all_mapped, map_map}
use Rattle.zf_steps.proofs.renewed.searches_of.Goals as goal

pub searches_among-requires : goal.searches_among-requires
searches_among-requires c =
    let e = environment_of c.args.env.now in
    subst (AllByRecursion (λ o. CanSearch e (operation_of schema_of o).schema)) (sym c.deref.ensures.value)
    (all_mapped (λ (o : Operation). CanSearch e o.schema) (operation_of schema_of) c.args.system.now.operations.items c.requires.operations)

pub returns : goal.returns
returns c =
    let m = system_of (environment_of c.args.env.now) schema_of c.args.system.now in record {
      of_state = c.new.ensures c.requires.test;
      of_init = c.new-2.ensures c.requires.init;
      of_operations = subst (λ schemas. AreFor IsFor m.environment schemas c.in_ok-operations.operations.items)
          (ap (map (λ o. (operation_of schema_of o).schema)) c.deref.ensures.value
          ∙ map_map (λ (o : Operation). o.schema) (operation_of schema_of) c.args.system.now.operations.items) c.in_ok-operations.ensures;
      has_part = tt;
    }
