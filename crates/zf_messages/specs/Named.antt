-- What the global at a place adds to lists of names. No public clause rests on this file.
use Rattle.std.specs.Prelude.{ℕ, List, [], Option, None, Some, slice_get}
use Rattle.std.specs.Option.{option_map_or}
use Rattle.zf_term.specs.{Defined}
use Rattle.zf_messages.specs.Missing.{if_schema}

abbrev pub schema_by : Option Defined → List (List ℕ)
schema_by None = []
schema_by (Some d) = if_schema d.name d.definition

abbrev pub schema_at : ℕ → List Defined → List (List ℕ)
schema_at place g = schema_by (slice_get g place)

abbrev pub name_of : Option Defined → List ℕ
name_of found = option_map_or (λ d. d.name) found []
