use Rattle.zf_machines.proofs.Prelude.{◌∙◌, ◌≡◌, ap, List, map, refl, subst, Named, named_of, schemas_of, state_of, IsInit, operation_in, operation_of, test_in, Component, comp_of, schema_of}
use Rattle.zf_machines.proofs.Lacking.{map_map}
use Rattle.zf_machines.proofs.making.machine_of.Goals as goal

pub returns : goal.returns
returns c e =
    let p = c.args.schemas.now in
    let whole = c.as_slice-before.ensures in record {
      environment = refl;
      spelled = refl;
      formed = refl;
      state = c.in_ok-test.ensures.label;
      test = c.in_ok-test.ensures.made ∙ ap (λ (n : Named). test_in (state_of (schemas_of p)) n.name n.schema) c.tested_by-tested.ensures;
      init = subst (λ (ks : List Component). IsInit (map comp_of ks) p.init.name.now (schema_of p.init.schema.now) (operation_of schema_of c.in_ok-init.init)) whole c.in_ok-init.ensures;
      operations = subst (λ (ks : List Component). map (operation_of schema_of) c.in_ok-operations.operations.items
          ≡ map (λ (o : Named). operation_in (map comp_of ks) o.name o.schema) (map named_of p.operations.items)) whole
          (c.in_ok-operations.ensures ∙ ap (map (λ o. operation_in (map comp_of c.as_slice-before.result.now) (named_of o).name (named_of o).schema)) c.deref.ensures.value
          ∙ map_map (λ (o : Named). operation_in (map comp_of c.as_slice-before.result.now) o.name o.schema) named_of p.operations.items);
    }
