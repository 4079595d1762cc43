-- What is claimed of the names of a text.
use Rattle.std.specs.Prelude.{◌≡◌, ℕ, List, Option, Some}
use Rattle.zf_parse.specs.{ReadsSource}
use Rattle.zf_tree.specs.{BoxTree}
use Rattle.zf_term.specs.{Defined, Fault, first_named, Schema, schema}
use Rattle.zf_schema.specs.{IsChecked}
use Rattle.zf_meaning.specs.declared.sizes.Size.{Size}
use Rattle.zf_meaning.specs.{AreComplete, Environment, given_sets, IsEnvironment}
use Rattle.zf_print.specs.{AreClear, spellings}
use Rattle.zf_read.specs.{HaveClearNames}

-- the globals of a text, at sizes of all its given sets, have clear spellings
abbrev pub GlobalsAreClear : Type 0
GlobalsAreClear =
    (boxes : List BoxTree) (source : List ℕ) (globals : List Defined) (faults : List Fault) (stated : List Size) (numbers : Option ℕ) (e : Environment)
    → ReadsSource boxes source → IsChecked boxes globals faults → AreComplete (given_sets globals) stated → IsEnvironment globals stated numbers e → AreClear (spellings globals) e.sizes

-- a schema that a text defines
pub record IsSchemaOf (source : List ℕ) (globals : List Defined) (a : Schema) : Type 0 where
  pub boxes : List BoxTree
  pub faults : List Fault
  pub place : ℕ
  pub name : List ℕ
  pub reads : ReadsSource boxes source
  pub checked : IsChecked boxes globals faults
  pub there : first_named (λ d. d.name) name globals ≡ Some (place, record { name = name; definition = schema a })

-- each of its components has a name, and no two have one
abbrev pub ComponentsAreClear : Type 0
ComponentsAreClear = (source : List ℕ) (globals : List Defined) (a : Schema) → IsSchemaOf source globals a → HaveClearNames a.comps
