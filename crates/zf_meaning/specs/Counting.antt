-- The sizes of globals one after another. No public clause rests on this.
use Rattle.std.specs.Prelude.{◌≡◌, ℕ, List, [], length, Option, Some, None, slice_get}
use Rattle.zf_meaning.specs.Prelude.{abbreviation, constructor, Defined, Definition, free_type, given_set, schema}
use Rattle.zf_meaning.specs.declared.sizes.Size.{Size}
use Rattle.zf_meaning.specs.Sizes.{with_given, IsStated}

-- the name of the global at this place, if it is a given set
abbrev pub given_by : Option Defined → List (List ℕ)
given_by None = []
given_by (Some d) = with_given d.name d.definition []

abbrev pub given_at : ℕ → List Defined → List (List ℕ)
given_at place g = given_by (slice_get g place)

-- how many elements a global has, if it is a given set or free type
abbrev pub CountsFor : List Size → List ℕ → Definition → Option ℕ → Type 0
CountsFor sizes name (given_set n) o = (count : ℕ) × IsStated sizes name count × (o ≡ Some count)
CountsFor sizes name (free_type n names) o = o ≡ Some (length names)
CountsFor sizes name (constructor n of_type place) o = o ≡ None
CountsFor sizes name (abbreviation t r x) o = o ≡ None
CountsFor sizes name (schema a) o = o ≡ None

abbrev pub CountsBy : List Size → Option Defined → Option ℕ → Type 0
CountsBy sizes None o = o ≡ None
CountsBy sizes (Some d) o = CountsFor sizes d.name d.definition o

abbrev pub CountsAt : List Size → ℕ → List Defined → Option ℕ → Type 0
CountsAt sizes place g o = CountsBy sizes (slice_get g place) o
