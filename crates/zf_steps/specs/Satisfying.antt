-- What it means that a state is sought: some row of the schema that is sought agrees with the state in the components that they share.
use Rattle.std.specs.Prelude.{List, [], ◌∷◌}
use Rattle.zf_steps.specs.Prelude.{Comp, Schema, sets_of, Value, Truth, True, IsTruthOf, Environment, property, IsHeld, IsInSets}
use Rattle.zf_steps.specs.Shapes.{place_of}
use Rattle.zf_steps.specs.Steps.{source_value}

-- a value for each component, which is a member of its declared sets
abbrev pub IsRowIn : Environment → List Comp → List Value → Type 0
IsRowIn e [] [] = Unit {0}
IsRowIn e [] (v ∷ row) = ⊥
IsRowIn e (c ∷ cs) [] = ⊥
IsRowIn e (c ∷ cs) (v ∷ row) = IsInSets e (sets_of c.sets) v × IsRowIn e cs row

-- each component that is one of the state's by its name has the value that it has in the state
abbrev pub AgreesWith : (state : List Comp) → (values : List Value) → List Comp → List Value → Type 0
AgreesWith state values [] row = Unit {0}
AgreesWith state values (c ∷ cs) [] = ⊥
AgreesWith state values (c ∷ cs) (v ∷ row) = IsHeld (source_value values (place_of state c.name)) v × AgreesWith state values cs row

-- some row of the schema agrees with the state and has this truth
pub record HasRow (e : Environment) (a : Schema) (state : List Comp) (values : List Value) (t : Truth) : Type 0 where
  pub row : List Value
  pub within : IsRowIn e a.comps row
  pub agrees : AgreesWith state values a.comps row
  pub truth_of : IsTruthOf (property e a.conjuncts) row t

abbrev pub Satisfies : Environment → Schema → (state : List Comp) → (values : List Value) → Type 0
Satisfies e a state values = HasRow e a state values True
