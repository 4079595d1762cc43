-- What is left of the limits after a schema.
use Rattle.std.specs.Prelude.{◌≡◌, ℕ, ◌+◌}
use Rattle.zf_term.specs.Schemas.{Schema}
use Rattle.zf_term.specs.Shapes.{nodes}
use Rattle.zf_term.specs.Limits.{sets_max, nodes_max, declared_sets, schema_nodes, IsWithin}

-- a schema within the limits, with what is left of two of them
pub record HasLeft (a : Schema) (sets_left nodes_left : ℕ) : Type 0 where
  pub sets : sets_left + declared_sets a ≡ sets_max
  pub nodes : nodes_left + schema_nodes a ≡ nodes_max
  pub within : IsWithin a
