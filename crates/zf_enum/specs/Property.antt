-- The property of a schema in an environment, as the conjuncts of a walk.
use Rattle.std.specs.Prelude.{ℕ, ◌+◌, max, List, [], ◌∷◌, length, Option, slice_get, IsSomeAnd}
use Rattle.zf_enum.specs.Prelude.{option_map_or, Reference, Component, references, ResolvedTree, Value, Truth, Conjuncts, Environment, in_row, IsTruth}
use Rattle.zf_value.specs.declared.value.Truth.TheVariants as truth
use Rattle.zf_walk.specs.declared.judge.Truth as walk
use Rattle.zf_walk.specs.declared.judge.Truth.TheVariants.{True, False, Out}

-- the place of a component, from 1
abbrev pub place_named : Reference → ℕ
place_named (Component i) = i + 1
place_named _ = 0

abbrev pub greatest_place : List Reference → ℕ
greatest_place [] = 0
greatest_place (r ∷ rs) = max (place_named r) (greatest_place rs)

-- the greatest place, from 1, of a component that the term names; 0 where it names none
abbrev pub due : ResolvedTree → ℕ
due t = greatest_place (references t)

abbrev pub due_of : Option ResolvedTree → ℕ
due_of conjunct = option_map_or due conjunct 0

abbrev pub HasTruth : Environment → List Value → Option ResolvedTree → Truth → Type 0
HasTruth e row conjunct t = IsSomeAnd conjunct (λ p. IsTruth (in_row e row) p t)

-- the truth of a predicate that a walk calls so
abbrev pub told : walk.Truth → Truth
told True = truth.True
told False = truth.False
told Out = truth.Out

-- the conjuncts, each with the number of components that it needs and its truth on a row
abbrev pub property : Environment → List ResolvedTree → Conjuncts Value
property e ts = record {
  number = length ts;
  due = λ c. due_of (slice_get ts c);
  says = λ c row t. HasTruth e row (slice_get ts c) (told t);
}
