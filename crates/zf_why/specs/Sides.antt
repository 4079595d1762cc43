-- The sides of a disjunction of schemas, from left to right.
use Rattle.std.specs.Prelude.{◌≡◌, List, [], ◌∷◌, ◌++◌}
use Rattle.zf_tree.specs.declared.span.Span.{Span}
use Rattle.zf_why.specs.Prelude.{from_to, one_holds, ResolvedTree}
use Rattle.zf_why.specs.Disjunctions.{Split, parted, whole}

-- the predicate is a disjunction of two schemas at these places; first is what L says of the predicates of the left one, then what R says of those of the right one
pub record AreOfBoth {A : Type 0} (l r : Span) (L R : List ResolvedTree → List A → Type 0) (p : ResolvedTree) (sides : List A) : Type 0 where
  pub left : List ResolvedTree
  pub right : List ResolvedTree
  pub disjoined : p ≡ one_holds (from_to l r) left right
  pub of_left : List A
  pub of_right : List A
  pub told_left : L left of_left
  pub told_right : R right of_right
  pub all : sides ≡ of_left ++ of_right

-- what S says of a side, by its place and its predicates, and of each of its sides, where it is split again
abbrev pub AreSides : {A : Type 0} → (S : Span → List ResolvedTree → A → Type 0) → Split → (l : Span) → (ps : List ResolvedTree) → List A → Type 0
AreSides {A} S whole l ps sides = (side : A) × S l ps side × (sides ≡ side ∷ [])
AreSides S (parted a x b y) l ps sides = (p : ResolvedTree) × (ps ≡ p ∷ []) × AreOfBoth a b (AreSides S x a) (AreSides S y b) p sides

-- what S says of each side of a disjunction of schemas, of another predicate nothing
abbrev pub AreSidesOf : {A : Type 0} → (S : Span → List ResolvedTree → A → Type 0) → Split → ResolvedTree → List A → Type 0
AreSidesOf S whole p sides = sides ≡ []
AreSidesOf S (parted a x b y) p sides = AreOfBoth a b (AreSides S x a) (AreSides S y b) p sides
