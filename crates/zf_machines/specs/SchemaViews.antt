-- Schemas as the program has them.
use Rattle.std.specs.Prelude.{map, option_map}
use Rattle.zf_machines.specs.Prelude.{schema_of}
use Rattle.zf_machines.specs.Machines.{Named, Schemas}
use Rattle.zf_machines.specs.declared.schemas.Named as code
use Rattle.zf_machines.specs.declared.schemas.Schemas as codes

abbrev pub named_of : code.Named → Named
named_of s = record { name = s.name.now; schema = schema_of s.schema.now }

abbrev pub schemas_of : codes.Schemas → Schemas
schemas_of p = record { state = named_of p.state; init = named_of p.init; operations = map named_of p.operations.items; sought = option_map named_of p.sought }
