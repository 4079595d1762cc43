-- What the members of products and of sets of relations are, each as a word.
use Rattle.std.specs.Prelude.{◌≡◌, List}
use Rattle.zf_tree.specs.declared.symbol.Arrow.{Arrow}
use Rattle.zf_tree.specs.declared.symbol.Arrow.TheVariants.{Relation, PartialFunction, TotalFunction, PartialInjection, TotalInjection}
use Rattle.zf_value.specs.declared.plain.Value.{Value, Tuple}
use Rattle.zf_value.specs.declared.value.Outcome.{Outcome}
use Rattle.zf_value.specs.{AreFrom, IsFunctional, IsInjective, IsRelationThat, IsSetOf, IsTotal}

-- a tuple of members of these sets
unfoldable pub IsTupleFrom : List Value → Value → Type 0
IsTupleFrom sets z = (vs : List Value) × (z ≡ Tuple vs) × AreFrom vs sets

-- what each kind of arrow demands of the pairs of a relation from a
abbrev pub IsOfKind : Arrow → List Value → List Value → Type 0
IsOfKind Relation a r = Unit {0}
IsOfKind PartialFunction a r = IsFunctional r
IsOfKind TotalFunction a r = IsFunctional r × IsTotal a r
IsOfKind PartialInjection a r = IsFunctional r × IsInjective r
IsOfKind TotalInjection a r = IsFunctional r × IsInjective r × IsTotal a r

-- a relation, function or injection from a set to a set
unfoldable pub IsArrow : Arrow → List Value → List Value → Value → Type 0
IsArrow kind a = IsRelationThat (IsOfKind kind a) a

unfoldable pub AreArrows : Arrow → List Value → List Value → Outcome → Type 0
AreArrows kind a b = IsSetOf (IsArrow kind a b)
