-- How the program's systems are seen.
use Rattle.std.specs.Prelude.{[], None, map}
use Rattle.zf_steps.specs.Prelude.{Schema, Environment}
use Rattle.zf_steps.specs.declared.system.Operation as code
use Rattle.zf_steps.specs.declared.system.System as codes
use Rattle.zf_steps.specs.Systems.{Operation, System}

-- an environment of nothing
abbrev pub no_environment : Environment
no_environment = record { globals = []; sizes = []; outcomes = []; numbers = None }

abbrev pub operation_of : {F : Type 0} → (F → Schema) → code.Operation F → Operation
operation_of schema o = record { name = o.name.now; schema = schema o.schema.now; sources = o.sources.items; after = o.after.items; others = o.others.items; label = (schema o.label.now).comps }

abbrev pub system_of : {F : Type 0} → Environment → (F → Schema) → codes.System F → System
system_of environment schema s = record {
  environment = environment;
  elements = s.elements.now;
  form = s.form;
  state = schema s.test.label.now;
  test = operation_of schema s.test;
  init = operation_of schema s.init;
  operations = map (operation_of schema) s.operations.items;
}
