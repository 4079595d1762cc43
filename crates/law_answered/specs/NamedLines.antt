-- Lines that name a row, in a source that is read and well typed, at sizes of all its given sets.
use Rattle.std.specs.Prelude.{◌≡◌, ◌↔◌, ℕ, List, Some}
use Rattle.law_answered.specs.Prelude.{Defined, Schema, Value, Size, AreComplete, Environment, given_sets, IsEnvironment, IsRow, binding_object, spellings, HasSchema, IsLineOf, NamesNoRow}
use Rattle.zf_read.specs.{IsNoLine}

-- a schema of the source, and the environment at the sizes
pub record IsSchemaAt (source name : List ℕ) (sizes : List Size) (globals : List Defined) (a : Schema) (e : Environment) : Type 0 where
  pub has_schema : HasSchema source name globals a
  pub complete : AreComplete (given_sets globals) sizes
  pub environment : IsEnvironment globals sizes e.numbers e

-- Two rows of a schema's types with one line are one row.
abbrev pub OneRowOfALine : Type 0
OneRowOfALine =
    (source name : List ℕ) (sizes : List Size) (globals : List Defined) (a : Schema) (e : Environment) (text : List ℕ) (row other : List Value)
    → IsSchemaAt source name sizes globals a e → IsLineOf e a.comps text row → IsLineOf e a.comps text other → row ≡ other

-- Two rows of a schema's types with one object are one row.
abbrev pub OneRowOfAnObject : Type 0
OneRowOfAnObject =
    (source name : List ℕ) (sizes : List Size) (globals : List Defined) (a : Schema) (e : Environment) (row other : List Value)
    → IsSchemaAt source name sizes globals a e → IsRow e a.comps row → IsRow e a.comps other
    → binding_object (spellings e.globals) a.comps row ≡ binding_object (spellings e.globals) a.comps other → row ≡ other

-- What `read_binding` says of a text that it refuses is exactly that it is the line of no row of the schema's types.
abbrev pub RefusedLinesAreOfNoRow : Type 0
RefusedLinesAreOfNoRow =
    (source name : List ℕ) (sizes : List Size) (globals : List Defined) (a : Schema) (e : Environment) (text : List ℕ)
    → IsSchemaAt source name sizes globals a e → IsNoLine (spellings globals) e a.comps text ↔ NamesNoRow e a.comps (Some text)
