-- The sides of a disjunction as places and predicates. No public clause rests on this.
use Rattle.std.specs.Prelude.{◌≡◌, ◌++◌, ℕ, List, [], ◌∷◌, map, Option}
use Rattle.zf_tree.specs.declared.span.Span.{Span}
use Rattle.zf_why.specs.Prelude.{Comp, conjunct_of, Environment, moved, ResolvedTree, Value}
use Rattle.zf_why.specs.declared.sides.Disjunct.{Disjunct}
use Rattle.zf_why.specs.Rows.{RuleOut}
use Rattle.zf_why.specs.Searching.{CanBegin}

abbrev pub IsThat : Span → List ResolvedTree → Span × List ResolvedTree → Type 0
IsThat l ps side = side ≡ (l, ps)

abbrev pub side_in : Disjunct → Span × List ResolvedTree
side_in d = (d.span, map conjunct_of d.conjuncts)

abbrev pub moved_side : (ℕ → ℕ) → Span × List ResolvedTree → Span × List ResolvedTree
moved_side f side = (side.0, map (moved f) side.1)

-- a search over its predicates can begin, and they can't hold together with the given ones
abbrev pub CanTell : Environment → List Comp → (held : List (Option Value)) → (given : List ResolvedTree) → Span × List ResolvedTree → Type 0
CanTell e cs held given side = CanBegin e cs (given ++ side.1) × RuleOut e cs held (given ++ side.1)

-- what S says of each, one after another
abbrev pub AreEach : {A : Type 0} → (S : Span → List ResolvedTree → A → Type 0) → List (Span × List ResolvedTree) → List A → Type 0
AreEach S [] [] = Unit {0}
AreEach S [] (t ∷ told) = ⊥
AreEach S (side ∷ sides) [] = ⊥
AreEach S (side ∷ sides) (t ∷ told) = S side.0 side.1 t × AreEach S sides told
