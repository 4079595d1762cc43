-- A schema that grows within the limits, and what stops it.
use Rattle.std.specs.Prelude.{◌≡◌, ℕ, ◌+◌, ◌++◌, List, [], ◌∷◌, Option, Some, None}
use Rattle.zf_calculus.specs.Prelude.{sum_by, option_map_or, Equal, chain, clash, Comp, DeclaredSet, link, no_links, Offence, one_holds, reference, ResolvedTree, Schema, set_count, set_nodes, sets_of, sides, too_large, type_of, constraints, Span}
use Rattle.zf_reference.specs.declared.reference.Reference.TheVariants as place
use Rattle.zf_calculus.specs.declared.room.Measure.{Measure}
use Rattle.zf_calculus.specs.declared.room.Measure.TheVariants.{Nodes, Sets}
use Rattle.zf_calculus.specs.declared.stop.Stop.{Stop}
use Rattle.zf_calculus.specs.declared.stop.Stop.TheVariants.{Clash, TooLarge, OutOfMemory}
use Rattle.zf_calculus.specs.Calculus as calculus
use Rattle.zf_calculus.specs.Calculus.{with_comp}

-- the place of the first component that has the name
abbrev pub place_found : Option (ℕ × Comp) → Option ℕ
place_found None = None
place_found (Some p) = Some p.0

abbrev pub place_named : List ℕ → List Comp → Option ℕ
place_named x cs = place_found (calculus.comp_named x cs)

-- the components are at these places
abbrev pub AreAt : List Comp → List ℕ → List Comp → Type 0
AreAt all [] [] = Unit {0}
AreAt all [] (c ∷ cs) = ⊥
AreAt all (p ∷ ps) [] = ⊥
AreAt all (p ∷ ps) (c ∷ cs) = (place_named c.name all ≡ Some p) × AreAt all ps cs

-- the fact holds of what is wrong, unless memory ran out
abbrev pub IfStopped : Stop → (Offence → Type 0) → Type 0
IfStopped (Clash c) P = P (clash c.name (type_of c.left) (type_of c.right))
IfStopped (TooLarge l) P = P (too_large l)
IfStopped OutOfMemory P = Unit {0}

-- with one more component, whatever type one of its name has
abbrev pub grown : Schema → Comp → Schema
grown a c = calculus.schema_with (with_comp a.comps c) a.conjuncts

-- with further conjuncts
abbrev pub constrained : Schema → List ResolvedTree → Schema
constrained a ts = calculus.schema_with a.comps (a.conjuncts ++ ts)

-- what is counted of a declared set
abbrev pub measured : Measure → DeclaredSet → ℕ
measured Sets = set_count
measured Nodes = set_nodes

-- what is counted of the declared sets of all components
abbrev pub counted : (DeclaredSet → ℕ) → List Comp → ℕ
counted f cs = sum_by (λ c. sum_by f c.sets) cs

-- two components are equal
abbrev pub equality : Span → (left right : ℕ) → ResolvedTree
equality l i p = chain l (reference l (place.Component i)) (link Equal (reference l (place.Component p)) no_links)

-- each component, from that place on, is equal to the one at the place in the list
abbrev pub equalities : Span → (from : ℕ) → List ℕ → List ResolvedTree
equalities l i [] = []
equalities l i (p ∷ ps) = equality l i p ∷ equalities l (i + 1) ps

-- ---- disjunctions

-- a component of a disjunction, with its declared sets on either side
abbrev pub either_comp : List Comp → List Comp → Comp → Comp
either_comp cs ds c = calculus.comp c.name c.type (sides (sets_of (calculus.sets_on (calculus.comp_named c.name cs) c.type)) (sets_of (calculus.sets_on (calculus.comp_named c.name ds) c.type)) ∷ [])

-- the disjunction, which has these components
abbrev pub disjoined_over : List Comp → Span → Schema → Schema → Schema
disjoined_over all l a b = calculus.schema_with all (one_holds l (constraints a) (calculus.carried b.comps all (constraints b)) ∷ [])

-- the place that is found, or else this one
abbrev pub place_or : Option (ℕ × Comp) → ℕ → ℕ
place_or found i = option_map_or (λ p. p.0) found i

abbrev pub place_of : Option Comp → List Comp → ℕ → ℕ
place_of found cs i = option_map_or (λ c. place_or (calculus.comp_named c.name cs) i) found i
