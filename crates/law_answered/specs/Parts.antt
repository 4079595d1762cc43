-- What `show --only` writes of a schema, in the words of its bindings: which values of some components have a line, in which order, and what ends the lines.
use Rattle.std.specs.Prelude.{◌≡◌, ◌↔◌, ◌⊎◌, ℕ, List, ◌++◌, Option, Contains, AllPairs}
use Rattle.law_answered.specs.Prelude.{flat_map, Defined, Schema, Value, value_order, ComesAfter, IsLater, Environment, Portion, AreRanges, spellings, Status, Request, IsNamedRow, NamesParts}
use Rattle.zf_places.specs.{comps_at, values_at}
use Rattle.zf_parts.specs.{part_wording}
use Rattle.law_answered.specs.Bindings.{EndsLines, IsBefore, IsBinding, IsInDoubt, IsNotPast}

-- Some binding has these values at the places, and no row with them of which it is not known comes before it; and they come after the named ones, if some are named.
pub record IsPartOfBinding (e : Environment) (a : Schema) (ranges : List (List Value)) (start : Option (List Value)) (places : List ℕ) (after : Option (List Value)) (values : List Value) : Type 0 where
  pub row : List Value
  pub binding : IsBinding e a ranges start row
  pub has : values_at places row ≡ values
  pub later : IsLater value_order after values
  pub certain : (other : List Value) → IsInDoubt e a ranges start other → values_at places other ≡ values → ComesAfter value_order other row → ⊥

-- Of the row it is not known, and no binding with the same values at the places comes before it.
pub record IsFirstInDoubt (e : Environment) (a : Schema) (ranges : List (List Value)) (start : Option (List Value)) (places : List ℕ) (row : List Value) : Type 0 where
  pub doubt : IsInDoubt e a ranges start row
  pub first : (other : List Value) → IsBinding e a ranges start other → values_at places other ≡ values_at places row → ComesAfter value_order other row → ⊥

-- The text and the status of `show` for the components of these names of a schema among these globals, in this environment, after the named values and with the values that are held.
pub record ShowsEachPart (names : List ℕ) (r : Request) (globals : List Defined) (a : Schema) (e : Environment) (p : Portion) (text : List ℕ) (status : Status) : Type 0 where
  -- the places of the components
  pub places : List ℕ
  pub of_names : NamesParts a.comps names places
  -- the named values, if some are
  pub after : Option (List Value)
  pub comes_after : IsNamedRow e (comps_at a.comps places) r.after after
  -- the range of each component, as for bindings
  pub ranges : List (List Value)
  pub of_components : AreRanges e a.comps p.held ranges
  -- the values that have a line, and the last ones that are looked at
  pub rows : List (List Value)
  pub last : Option (List Value)
  -- they are exactly those that bindings have up to there
  pub members : (values : List Value) → Contains rows values ↔ (IsPartOfBinding e a ranges p.after places after values × IsNotPast value_order last values)
  -- each come after those before them, so each have one line
  pub ascending : AllPairs (ComesAfter value_order) rows
  -- of a row with values before the last ones, be it a binding or not known, the values have a line
  pub each : (row : List Value) → IsBinding e a ranges p.after row ⊎ IsInDoubt e a ranges p.after row → IsLater value_order after (values_at places row)
      → IsBefore value_order last (values_at places row) → Contains rows (values_at places row)
  -- their lines, and the last line
  pub final : List ℕ
  pub ending : EndsLines (values_at places) (IsFirstInDoubt e a ranges p.after places)
      (part_wording r.format (spellings globals) (comps_at a.comps places) a.comps) r.limit rows last final status
  pub written : text ≡ flat_map (part_wording r.format (spellings globals) (comps_at a.comps places) a.comps).line rows ++ final
