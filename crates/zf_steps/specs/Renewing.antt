-- A search that is begun anew for each state. Public clauses cite `CanSearch` and `CanSearchAll` alone.
use Rattle.std.specs.Prelude.{◌≡◌, ◌≢◌, ◌⊎◌, ℕ, Bool, true, List, [], length, Option, None, Some, slice_get}
use Rattle.zf_steps.specs.Prelude.{AllByRecursion, Schema, schema_of, IsFinite, Value, Environment, environment_of, conjuncts_of, planted_goal, property, AreRanges, held_at, IsNoneOut}
use Rattle.zf_walk.specs.{AreDueWithin, ended, Stage}
use Rattle.zf_plan.specs.{SayTheSame}
use Rattle.zf_instances.specs.declared.instances.Instances.{Instances}
use Rattle.zf_steps.specs.declared.renewed.Renewed.{Renewed}
use Rattle.zf_steps.specs.Finders.{Place}
use Rattle.zf_steps.specs.Systems.{System}

-- The schema can be searched, whatever is held: it is finite, no conjunct needs more than its components, and no declared set is out.
pub record CanSearch (e : Environment) (a : Schema) : Type 0 where
  pub finite : IsFinite e.numbers e.globals a
  pub due : AreDueWithin (property e a.conjuncts) (length a.comps)
  pub none_out : IsNoneOut e a.comps

pub record CanSearchAll (m : System) : Type 0 where
  pub test : CanSearch m.environment m.test.schema
  pub init : CanSearch m.environment m.init.schema
  pub operations : AllByRecursion (λ o. CanSearch m.environment o.schema) m.operations

-- where the search stands that was begun last, if there is one
abbrev pub stage_of : Option Instances → Stage Value
stage_of None = record { ranges = []; after = None; last = None; ahead = ended }
stage_of (Some i) = i.search.stage

abbrev pub stage_at : Renewed → Stage Value
stage_at r = stage_of r.search

-- the components of which a value is held are marked
abbrev pub AreMarked : (held : List (Option Value)) → (given : List Bool) → Type 0
AreMarked held given = (place : ℕ) → (held_at place held ≡ None) ⊎ (slice_get given place ≡ Some true)

-- of each that is marked a value is held
abbrev pub AreMarkedHeld : (given : List Bool) → (held : List (Option Value)) → Type 0
AreMarkedHeld given held = (place : ℕ) → slice_get given place ≡ Some true → held_at place held ≢ None

-- it goes by the conjuncts of the schema, over ranges where values of marked components are held
pub record GoesOver (i : Instances) (given : List Bool) (e : Environment) (a : Schema) : Type 0 where
  pub environment : (planted_goal i.names i.search).environment ≡ e
  pub same : SayTheSame (conjuncts_of (planted_goal i.names i.search)) (property e a.conjuncts)
  pub before : List (Option Value)
  pub ranges : AreRanges e a.comps before i.search.stage.ranges
  pub marked : AreMarked before given

abbrev pub GoesBy : Option Instances → (given : List Bool) → Environment → Schema → Type 0
GoesBy None given e a = Unit {0}
GoesBy (Some i) given e a = GoesOver i given e a

pub record IsFor (r : Renewed) (e : Environment) (a : Schema) : Type 0 where
  pub environment : environment_of r.env.now ≡ e
  pub schema : schema_of r.flat.now ≡ a
  pub can : CanSearch e a
  pub goes_by : GoesBy r.search r.given.items e a

-- where it stands, and what it is for
abbrev pub place_of : Renewed → Place
place_of r = record { stage = stage_at r; IsFor = IsFor r }
