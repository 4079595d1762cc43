-- Everything has a meaning: there is an outcome, a truth, a carrier, an environment. That there is no second one are laws of `zf_meaning`.
use Rattle.std.specs.Prelude.{◌≡◌, ◌≢◌, ◌⊎◌, ◌↔◌, ℕ, List, Option}
use Rattle.zf_tree.specs.declared.span.Span.{Span}
use Rattle.zf_tree.specs.declared.operator.Operator.TheVariants as operator
use Rattle.zf_tree.specs.declared.symbol.Connective.{Connective}
use Rattle.zf_term.specs.{binary, Defined, ResolvedTree, Ty}
use Rattle.zf_value.specs.declared.value.Outcome.{Outcome}
use Rattle.zf_value.specs.declared.value.Truth.{Truth}
use Rattle.zf_meaning.specs.declared.sizes.Size.{Size}
use Rattle.zf_meaning.specs.declared.sizes.SizeFault.{SizeFault}
use Rattle.zf_meaning.specs.declared.sizes.SizeFault.TheVariants.{OutOfMemory}
use Rattle.zf_meaning.specs.{AreComplete, Context, Environment, given_sets, HasOutcome, IsCarrier, IsEnvironment, IsRefusal, IsTruth}
use Rattle.zf_outcome.specs.{connected}

-- Every expression has an outcome: a value, undefined, or out.
abbrev pub EveryOutcome : Type 0
EveryOutcome = (c : Context) (t : ResolvedTree) → (o : Outcome) × HasOutcome c t o

-- Every predicate has a truth: true, false, or out.
abbrev pub EveryTruth : Type 0
EveryTruth = (c : Context) (t : ResolvedTree) → (u : Truth) × IsTruth c t u

-- The truth of a connective is the one that its table makes of the truths of its sides.
abbrev pub ConnectivesByTable : Type 0
ConnectivesByTable = (c : Context) (l : Span) (k : Connective) (a b : ResolvedTree) (u : Truth) → IsTruth c (binary l (operator.Connective k) a b) u ↔ ((p q : Truth) × IsTruth c a p × IsTruth c b q × (u ≡ connected k p q))

-- Every type has a carrier.
abbrev pub EveryCarrier : Type 0
EveryCarrier = (e : Environment) (t : Ty) → (o : Outcome) × IsCarrier e t o

-- Stated sizes are complete, or they are refused for a fault of their own.
abbrev pub SizesAreJudged : Type 0
SizesAreJudged = (sets : List (List ℕ)) (sizes : List Size) → AreComplete sets sizes ⊎ ((fault : SizeFault) × IsRefusal sets sizes fault × (fault ≢ OutOfMemory))

-- Globals at complete sizes have an environment, with a greatest number or without one.
abbrev pub EveryEnvironment : Type 0
EveryEnvironment = (g : List Defined) (stated : List Size) (numbers : Option ℕ) → AreComplete (given_sets g) stated → (e : Environment) × IsEnvironment g stated numbers e
