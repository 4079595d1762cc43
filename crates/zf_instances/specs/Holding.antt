-- A search that is begun again with other values of the components of which values are held.
use Rattle.std.specs.Prelude.{◌≡◌, ℕ, List, Option, None}
use Rattle.zf_instances.specs.Prelude.{Schema, Value, SayTheSame, Environment, AreRanges, held_at, IsNoneOut}
use Rattle.zf_enum.specs.{property, Goal, conjuncts_of}

-- of each component of which a value was held one is held again
abbrev pub AreHeldAgain : (before held : List (Option Value)) → Type 0
AreHeldAgain before held = (place : ℕ) → held_at place held ≡ None → held_at place before ≡ None

-- What goes by this is a search of the schema in the environment, and these are the ranges with other values of components of which values are held.
pub record CanHold (e : Environment) (s : Schema) (held : List (Option Value)) (g : Goal) (ranges : List (List Value)) : Type 0 where
  pub environment : g.environment ≡ e
  pub same : SayTheSame (conjuncts_of g) (property e s.conjuncts)
  pub before : List (Option Value)
  pub of_components : AreRanges e s.comps before ranges
  pub none_out : IsNoneOut e s.comps
  pub again : AreHeldAgain before held
