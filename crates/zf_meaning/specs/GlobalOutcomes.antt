-- The outcomes of the globals, worked out in order: each by those before it.
use Rattle.std.specs.Prelude.{◌≡◌, ℕ, List, length, Option, Some, slice_get}
use Rattle.zf_meaning.specs.Prelude.{abbreviation, constructor, Defined, Definition, free_type, given_set, schema, Outcome, Undefined}
use Rattle.zf_meaning.specs.declared.sizes.Size.{Size}
use Rattle.zf_meaning.specs.Environments.{Environment, before, element, IsTypeSet, globally}
use Rattle.zf_meaning.specs.Sizes.{AreSizes}
use Rattle.zf_meaning.specs.Meaning.{HasOutcome}

abbrev pub IsOutcomeOf : Environment → Definition → Outcome → Type 0
IsOutcomeOf e (given_set n) o = IsTypeSet e n o
IsOutcomeOf e (free_type n names) o = IsTypeSet e n o
IsOutcomeOf e (constructor n of_type place) o = o ≡ element n place
IsOutcomeOf e (abbreviation t r x) o = HasOutcome (globally e) r o
IsOutcomeOf e (schema a) o = o ≡ Undefined

-- the global at this place has its outcome
abbrev pub IsWorkedOut : Environment → ℕ → Defined → Type 0
IsWorkedOut e i d = (o : Outcome) × (slice_get e.outcomes i ≡ Some o) × IsOutcomeOf (before e i) d.definition o

abbrev pub AreWorkedOut : Environment → Type 0
AreWorkedOut e = (length e.outcomes ≡ length e.globals) × ((i : ℕ) (d : Defined) → slice_get e.globals i ≡ Some d → IsWorkedOut e i d)

-- the environment of these globals at the stated sizes, where these are the numbers
abbrev pub IsEnvironment : List Defined → List Size → (numbers : Option ℕ) → Environment → Type 0
IsEnvironment g stated numbers e = (e.globals ≡ g) × AreSizes stated g e.sizes × AreWorkedOut e × (e.numbers ≡ numbers)
