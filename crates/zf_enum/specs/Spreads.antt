-- Predicates that ask for values of variables with which a component is equal to an expression. No public clause rests on this.
use Rattle.std.specs.Prelude.{◌≡◌, ◌⊎◌, ℕ, List, Some, All, IfSome, slice_get}
use Rattle.zf_enum.specs.Prelude.{absent, binary, bracket, comprehension, chain, present, quantified, resolved_of, ResolvedTree, Span}
use Rattle.zf_tree.specs.declared.operator.Operator.TheVariants.{Connective}
use Rattle.zf_tree.specs.declared.symbol.Connective.TheVariants as connective
use Rattle.zf_tree.specs.declared.symbol.Quantifier.{Quantifier}
use Rattle.zf_tree.specs.declared.symbol.Quantifier.TheVariants.{ForAll, Exists, ExistsOne}
use Rattle.zf_enum.specs.declared.spread.Spread.{Spread}
use Rattle.zf_enum.specs.Fixing.{Fixes}

-- the quantifier asks for a row
abbrev pub IsThere : Quantifier → Type 0
IsThere ForAll = ⊥
IsThere Exists = Unit {0}
IsThere ExistsOne = Unit {0}

-- the predicate equates the component with the term, or a side of it does that has to hold
abbrev pub Equates : ResolvedTree → ℕ → ResolvedTree → Type 0
Equates (bracket l p) k t = Equates p k t
Equates (binary l (Connective connective.And) p q) k t = Equates p k t ⊎ Equates q k t
Equates (chain l a ks) k t = Fixes (chain l a ks) k t
Equates _ k t = ⊥

-- the predicate asks for values of variables with which the component is equal to the term
abbrev pub AsksFor : ResolvedTree → ℕ → ResolvedTree → Type 0
AsksFor (quantified l q rs c body) k t = IsThere q × Equates body k t
AsksFor _ k t = ⊥

-- the set is that of what the term comes to with any values of the predicate's variables
abbrev pub IsSetOver : ResolvedTree → ResolvedTree → ResolvedTree → Type 0
IsSetOver (quantified l q rs c body) t set = (m : Span) × (set ≡ comprehension m rs absent (present t))
IsSetOver _ t set = ⊥

abbrev pub IsSpread : ResolvedTree → ℕ → ResolvedTree → Type 0
IsSpread p k set = (t : ResolvedTree) × AsksFor p k t × IsSetOver p t set

-- what is kept of a conjunct is right
abbrev pub IsSpreadOf : List ResolvedTree → Spread → Type 0
IsSpreadOf ts s = IfSome (slice_get ts s.conjunct) (λ p. IsSpread p s.component (resolved_of s.set))

abbrev pub AreSpreads : List ResolvedTree → List Spread → Type 0
AreSpreads ts ss = All (IsSpreadOf ts) ss

-- what is added is right of a conjunct that is this predicate
abbrev pub AddsSpreads : ResolvedTree → ℕ → List Spread → List Spread → Type 0
AddsSpreads p c old new = (ts : List ResolvedTree) → slice_get ts c ≡ Some p → AreSpreads ts old → AreSpreads ts new
