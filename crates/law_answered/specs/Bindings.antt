-- What `show` writes of a schema, in the words of its bindings: which rows have a line, in which order, and what ends the lines.
use Rattle.std.specs.Prelude.{◌≡◌, ◌↔◌, ◌⊎◌, ℕ, List, [], ◌∷◌, ◌++◌, length, Option, Some, None, Contains, All, AllPairs}
use Rattle.law_answered.specs.Prelude.{flat_map, Defined, ResolvedTree, Schema, Value, value_order, ComesAfter, IsLater, IsRowOf, Environment, in_row, IsTruth, Portion, AreRanges, Status, IsBelow, IsTestsLine, Wording, Request, wording}
use Rattle.std.specs.declared.cmp.Ordering.{Ordering}
use Rattle.zf_value.specs.declared.value.Truth.TheVariants.{True, Out}
use Rattle.zf_lines.specs.declared.fault.Status.TheVariants.{Done, PastBounds}

-- ---- rows

-- each conjunct of the schema's property is true in the row
abbrev pub Satisfies : Environment → Schema → List Value → Type 0
Satisfies e a row = All (λ p. IsTruth (in_row e row) p True) a.conjuncts

-- none is false in it, and one is out of bounds: whether the row satisfies the schema is not known
abbrev pub IsOutOfBounds : Environment → Schema → List Value → Type 0
IsOutOfBounds e a row = All (λ p. IsTruth (in_row e row) p True ⊎ IsTruth (in_row e row) p Out) a.conjuncts × ((p : ResolvedTree) × Contains a.conjuncts p × IsTruth (in_row e row) p Out)

-- a row that is asked for: it has a value of each range, comes after the named row, if one is named, and satisfies the schema
pub record IsBinding (e : Environment) (a : Schema) (ranges : List (List Value)) (after : Option (List Value)) (row : List Value) : Type 0 where
  pub within : IsRowOf ranges row
  pub later : IsLater value_order after row
  pub satisfies : Satisfies e a row

-- the same of a row of which it is not known
pub record IsInDoubt (e : Environment) (a : Schema) (ranges : List (List Value)) (after : Option (List Value)) (row : List Value) : Type 0 where
  pub within : IsRowOf ranges row
  pub later : IsLater value_order after row
  pub out : IsOutOfBounds e a row

-- ---- the last row that is looked at, or none where all are

-- the row comes before it
abbrev pub IsBefore : {V : Type 0} → (V → V → Ordering) → Option (List V) → List V → Type 0
IsBefore cmp None row = Unit {0}
IsBefore cmp (Some last) row = ComesAfter cmp row last

-- the row is it, or comes before it
abbrev pub IsNotPast : {V : Type 0} → (V → V → Ordering) → Option (List V) → List V → Type 0
IsNotPast cmp None row = Unit {0}
IsNotPast cmp (Some last) row = (row ≡ last) ⊎ ComesAfter cmp row last

-- ---- the end

-- The last line and the status, by why nothing further is written. Of each row these values are written: all, or those of some components.
pub data EndsLines {V : Type 0} (values : List V → List V) (InDoubt : List V → Type 0) (w : Wording V)
    (limit : Option ℕ) (rows : List (List V)) (last : Option (List V)) (final : List ℕ) (status : Status) : Type 0 where
  -- as many as the limit are written, and the last of them is the last that is looked at
  enough : (front : List (List V)) (row : List V) → rows ≡ front ++ row ∷ [] → last ≡ Some row → limit ≡ Some (length rows)
      → final ≡ w.more → status ≡ Done → EndsLines values InDoubt w limit rows last final status
  -- fewer are, and the next one is out of bounds
  out : (row : List V) → last ≡ Some (values row) → InDoubt row → IsBelow limit (length rows)
      → final ≡ w.out row → status ≡ PastBounds → EndsLines values InDoubt w limit rows last final status
  -- fewer are, and all were looked at
  complete : last ≡ None → IsBelow limit (length rows)
      → final ≡ w.end → status ≡ Done → EndsLines values InDoubt w limit rows last final status

-- The text and the status of `show` for a schema among these globals, in this environment, after the named row and with the values that are held.
pub record ShowsBindings (r : Request) (globals : List Defined) (a : Schema) (e : Environment) (p : Portion) (text : List ℕ) (status : Status) : Type 0 where
  -- the range of each component: the values that are members of all its declared sets, or of them the one that is held
  pub ranges : List (List Value)
  pub of_components : AreRanges e a.comps p.held ranges
  -- the rows that have a line, and the last one that is looked at
  pub rows : List (List Value)
  pub last : Option (List Value)
  -- they are exactly the bindings up to there
  pub members : (row : List Value) → Contains rows row ↔ (IsBinding e a ranges p.after row × IsNotPast value_order last row)
  -- each comes after those before it, so each has one line
  pub ascending : AllPairs (ComesAfter value_order) rows
  -- before the last one there is none of which it is not known
  pub certain : (row : List Value) → IsInDoubt e a ranges p.after row → IsBefore value_order last row → ⊥
  -- their lines, the last line, and the number of tests, if it is asked for
  pub final : List ℕ
  pub counted : List ℕ
  pub ending : EndsLines (λ row. row) (IsInDoubt e a ranges p.after) (wording r globals a) r.limit rows last final status
  pub numbered : IsTestsLine (wording r globals a) r.tests e a p last counted
  pub written : text ≡ flat_map (wording r globals a).line rows ++ final ++ counted
