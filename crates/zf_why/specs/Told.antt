-- What is reported of conjuncts that are to blame: what they are shown by, of a disjunction of schemas that of each side, and with details what its operands come to.
use Rattle.std.specs.Prelude.{◌≡◌, ℕ, suc, Bool, true, false, List, [], ◌∷◌, map, slice_set, Option}
use Rattle.zf_tree.specs.declared.span.Span.{Span}
use Rattle.zf_why.specs.Prelude.{Comp, ResolvedTree, Value, Environment, chosen_of}
use Rattle.zf_why.specs.declared.part.Part.{Part}
use Rattle.zf_why.specs.declared.told.Side.{Side}
use Rattle.zf_why.specs.declared.told.Told.{Told}
use Rattle.zf_why.specs.Cores.{IsCore}
use Rattle.zf_why.specs.Disjunctions.{Split}
use Rattle.zf_why.specs.Operands.{AreOperands}
use Rattle.zf_why.specs.Parts.{part_of}
use Rattle.zf_why.specs.Sides.{AreSidesOf}

-- what a minimal set of these predicates is shown by that can't hold together with the given ones
abbrev pub AreBlamed : Environment → List Comp → (held : List (Option Value)) → (given ps : List ResolvedTree) → (blamed : List Part) → Type 0
AreBlamed e cs held given ps blamed = (core : List Bool) × IsCore e cs held given ps core × (blamed ≡ map part_of (chosen_of ps core))

-- what is reported of a side that stands there and has these predicates
pub record IsSide (e : Environment) (cs : List Comp) (held : List (Option Value)) (given : List ResolvedTree) (l : Span) (ps : List ResolvedTree) (side : Side) : Type 0 where
  pub span : side.span ≡ l
  pub blamed : AreBlamed e cs held given ps side.blamed.items

-- what is reported of a predicate that can't hold together with the given ones
pub record IsTelling (e : Environment) (cs : List Comp) (held : List (Option Value)) (details : Bool) (given : List ResolvedTree) (split : Split) (p : ResolvedTree) (told : Told) : Type 0 where
  pub part : told.part ≡ part_of p
  pub sides : AreSidesOf (IsSide e cs held given) split p told.sides.items
  pub operands : AreOperands e held details p told.operands

-- what R says of each that is chosen, from this place on
abbrev pub AreTellings : (R : ℕ → ResolvedTree → Told → Type 0) → (place : ℕ) → List ResolvedTree → (chosen : List Bool) → List Told → Type 0
AreTellings R i [] chosen told = told ≡ []
AreTellings R i (p ∷ ps) [] told = told ≡ []
AreTellings R i (p ∷ ps) (false ∷ chosen) told = AreTellings R (suc i) ps chosen told
AreTellings R i (p ∷ ps) (true ∷ chosen) [] = ⊥
AreTellings R i (p ∷ ps) (true ∷ chosen) (t ∷ told) = R i p t × AreTellings R (suc i) ps chosen told

-- what is reported of each predicate that is chosen, beside others, whose disjunctions of schemas are split so
abbrev pub AreTold : Environment → List Comp → (held : List (Option Value)) → (details : Bool) → (beside : ℕ → List ResolvedTree) → (splits : ℕ → Split) → List ResolvedTree → (chosen : List Bool) → List Told → Type 0
AreTold e cs held details beside splits = AreTellings (λ i p told. IsTelling e cs held details (beside i) (splits i) p told) 0

-- each is reported by itself
abbrev pub nothing_beside : ℕ → List ResolvedTree
nothing_beside i = []

-- each is reported beside the others that are chosen
abbrev pub others_beside : List ResolvedTree → (chosen : List Bool) → ℕ → List ResolvedTree
others_beside ps chosen i = chosen_of ps (slice_set chosen i false)
