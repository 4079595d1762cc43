-- Outcomes have the types of their terms.
use Rattle.std.specs.Prelude.{ℕ, List, Option, take, length}
use Rattle.law_sound.specs.Prelude.{Tree, Comp, Defined, Ty, Value, Is, Size, AreOfTypes, Context, Environment, HasOutcome, IsEnvironment, IsOfType, IsRow, AreDefinedOnce, AreWellTyped}
use Rattle.zf_typing.specs.{IsOf, resolved, Scope, types_of, Var}
use Rattle.zf_sorts.specs.{typed}

-- a value of its type for each of the first components
abbrev pub IsFrontOfRow : Environment → List Comp → List Value → Type 0
IsFrontOfRow e cs vs = IsRow e (take (length vs) cs) vs

-- what is in scope after the first so many globals
abbrev pub scope : List Defined → ℕ → List Comp → List Var → Scope
scope g n comps variables = record { globals = take n g; comps = comps; locals = variables }

abbrev pub context : Environment → List Value → List Value → Context
context e row locals = record { environment = e; row = row; locals = locals }

-- where each component and variable that is bound has a value of its type, the outcome of a well typed expression is of its type
abbrev pub OutcomesTyped : Type 0
OutcomesTyped =
    (g : List Defined) (stated : List Size) (numbers : Option ℕ) (e : Environment) (n : ℕ) (comps : List Comp) (variables : List Var) (row locals : List Value) (t : Tree) (u : Ty) (v : Value)
    → AreWellTyped g → AreDefinedOnce g → IsEnvironment g stated numbers e
    → IsFrontOfRow e comps row → AreOfTypes e (types_of variables) locals
    → IsOf (scope g n comps variables) t (typed u) → HasOutcome (context e row locals) (resolved (scope g n comps variables) t) (Is v)
    → IsOfType e u v
