-- What the globals of a text hold is well typed: each of them is made by the rules from those before it, and what is kept with it stays true.
use Rattle.std.specs.Prelude.{◌≡◌, ℕ, ◌+◌, List, length, take, slice_get, Some}
use Rattle.zf_tree.specs.{BoxTree, SchemaTree, Tree}
use Rattle.zf_term.specs.declared.extent.Extent.{Extent}
use Rattle.zf_term.specs.{abbreviation, constructor, Defined, Definition, Fault, free_type, given_set, ResolvedTree, schema, Ty}
use Rattle.zf_extent.specs.{extent_of}
use Rattle.zf_typing.specs.{IsOf, resolved}
use Rattle.zf_sorts.specs.{typed}
use Rattle.zf_schema.specs.{IsChecked, IsSchema, next_number, outside}

-- the free type of this number and name is among the globals; it has this name at the place, and only that many globals stand after it
abbrev pub IsConstructor : List Defined → (name : List ℕ) → (number : ℕ) → (of_type : List ℕ) → (place : ℕ) → Type 0
IsConstructor g name number of_type place =
    (i : ℕ) × (names : List (List ℕ)) × (slice_get g i ≡ Some (record { name = of_type; definition = free_type number names }))
    × (slice_get names place ≡ Some name) × (length g ≡ i + 1 + place)

-- by the rules, a name may be defined as this after the globals g; what a schema box declares is a schema text
abbrev pub IsMadeAfter : List Defined → (name : List ℕ) → Definition → Type 0
IsMadeAfter g name (given_set number) = number ≡ next_number g
IsMadeAfter g name (free_type number names) = number ≡ next_number g
IsMadeAfter g name (constructor number of_type place) = IsConstructor g name number of_type place
IsMadeAfter g name (abbreviation t r x) = (e : Tree) × IsOf (outside g) e (typed t) × (r ≡ resolved (outside g) e) × (x ≡ extent_of g r)
IsMadeAfter g name (schema a) = (x : SchemaTree) × IsSchema g x a

-- each global is made after those before it
abbrev pub AreWellTyped : List Defined → Type 0
AreWellTyped g = (i : ℕ) (d : Defined) → slice_get g i ≡ Some d → IsMadeAfter (take i g) d.name d.definition

abbrev pub GlobalsWellTyped : Type 0
GlobalsWellTyped = (boxes : List BoxTree) (g : List Defined) (faults : List Fault) → IsChecked boxes g faults → AreWellTyped g

-- the extent that is kept with an abbreviation is that of its term after all globals, and not only after those before it
abbrev pub ExtentsKept : Type 0
ExtentsKept =
    (boxes : List BoxTree) (g : List Defined) (faults : List Fault) (i : ℕ) (name : List ℕ) (t : Ty) (r : ResolvedTree) (x : Extent)
    → IsChecked boxes g faults → slice_get g i ≡ Some (record { name = name; definition = abbreviation t r x }) → x ≡ extent_of g r
