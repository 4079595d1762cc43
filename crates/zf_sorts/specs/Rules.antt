-- The rules of types: what the places of a symbol need, and how the types of its operands and of the whole belong together.
use Rattle.std.specs.Prelude.{◌≡◌}
use Rattle.zf_tree.specs.declared.symbol.Constant.{Constant}
use Rattle.zf_tree.specs.declared.symbol.Constant.TheVariants.{True, False}
use Rattle.zf_tree.specs.declared.symbol.Prefix.{Prefix}
use Rattle.zf_tree.specs.declared.symbol.Prefix.TheVariants.{Power, Finset, Domain, Range, Size}
use Rattle.zf_tree.specs.declared.operator.Sign.{Sign}
use Rattle.zf_tree.specs.declared.operator.Sign.TheVariants as sign
use Rattle.zf_term.specs.{int, IsSmall, mismatch, Offence, pair_type, power, Ty, unfit}
use Rattle.zf_tree.specs.declared.operator.Need.{Need}
use Rattle.zf_tree.specs.declared.operator.Need.TheVariants as need
use Rattle.zf_tree.specs.declared.operator.Rule.{Rule}
use Rattle.zf_tree.specs.declared.operator.Rule.TheVariants as rule
use Rattle.zf_tree.specs.declared.operator.Unary.{Unary}
use Rattle.zf_tree.specs.declared.operator.Unary.TheVariants as unary
pub use Rattle.zf_term.specs.{a_schema, predicate, Sort, typed}

abbrev pub number_sort : Sort
number_sort = typed int

abbrev pub set_sort : Ty → Sort
set_sort t = typed (power t)

abbrev pub relation_sort : Ty → Ty → Sort
relation_sort t u = set_sort (pair_type t u)

abbrev pub IsSmallSort : Sort → Type 0
IsSmallSort (typed t) = IsSmall t
IsSmallSort _ = Unit {0}

abbrev pub Meets : Need → Sort → Type 0
Meets need.Expression z = (t : Ty) × (z ≡ typed t)
Meets need.Number z = z ≡ number_sort
Meets need.Set z = (t : Ty) × (z ≡ set_sort t)
Meets need.Relation z = (t u : Ty) × (z ≡ relation_sort t u)
Meets need.Predicate z = z ≡ predicate

-- the left operand, the right one, and the whole
abbrev pub Takes : Rule → Sort → Sort → Sort → Type 0
Takes rule.Arithmetic x y z = (x ≡ number_sort) × (y ≡ number_sort) × (z ≡ number_sort)
Takes rule.Interval x y z = (x ≡ number_sort) × (y ≡ number_sort) × (z ≡ set_sort int)
Takes rule.Pairing x y z = (t u : Ty) × (x ≡ typed t) × (y ≡ typed u) × (z ≡ typed (pair_type t u))
Takes rule.SetFunction x y z = (t : Ty) × (x ≡ set_sort t) × (y ≡ set_sort t) × (z ≡ set_sort t)
Takes rule.Overriding x y z = (t u : Ty) × (x ≡ relation_sort t u) × (y ≡ relation_sort t u) × (z ≡ relation_sort t u)
Takes rule.Composing x y z = (t u v : Ty) × (x ≡ relation_sort t u) × (y ≡ relation_sort u v) × (z ≡ relation_sort t v)
Takes rule.DomainRestricting x y z = (t u : Ty) × (x ≡ set_sort t) × (y ≡ relation_sort t u) × (z ≡ relation_sort t u)
Takes rule.RangeRestricting x y z = (t u : Ty) × (x ≡ relation_sort t u) × (y ≡ set_sort u) × (z ≡ relation_sort t u)
Takes rule.Relating x y z = (t u : Ty) × (x ≡ set_sort t) × (y ≡ set_sort u) × (z ≡ set_sort (power (pair_type t u)))
Takes rule.Applying x y z = (t u : Ty) × (x ≡ relation_sort t u) × (y ≡ typed t) × (z ≡ typed u)
Takes rule.Imaging x y z = (t u : Ty) × (x ≡ relation_sort t u) × (y ≡ set_sort t) × (z ≡ set_sort u)
Takes rule.Equating x y z = (t : Ty) × (x ≡ typed t) × (y ≡ typed t) × (z ≡ predicate)
Takes rule.Belonging x y z = (t : Ty) × (x ≡ typed t) × (y ≡ set_sort t) × (z ≡ predicate)
Takes rule.Including x y z = (t : Ty) × (x ≡ set_sort t) × (y ≡ set_sort t) × (z ≡ predicate)
Takes rule.Comparing x y z = (x ≡ number_sort) × (y ≡ number_sort) × (z ≡ predicate)
Takes rule.Connecting x y z = (x ≡ predicate) × (y ≡ predicate) × (z ≡ predicate)

abbrev pub PrefixTakes : Prefix → Sort → Sort → Type 0
PrefixTakes Power x z = (t : Ty) × (x ≡ set_sort t) × (z ≡ set_sort (power t))
PrefixTakes Finset x z = (t : Ty) × (x ≡ set_sort t) × (z ≡ set_sort (power t))
PrefixTakes Size x z = (t : Ty) × (x ≡ set_sort t) × (z ≡ number_sort)
PrefixTakes Domain x z = (t u : Ty) × (x ≡ relation_sort t u) × (z ≡ set_sort t)
PrefixTakes Range x z = (t u : Ty) × (x ≡ relation_sort t u) × (z ≡ set_sort u)

abbrev pub SignTakes : Sign → Sort → Sort → Type 0
SignTakes sign.Minus x z = (x ≡ number_sort) × (z ≡ number_sort)
SignTakes (sign.Symbol p) x z = PrefixTakes p x z

-- the operand, and the whole
abbrev pub UnaryTakes : Unary → Sort → Sort → Type 0
UnaryTakes (unary.Sign s) x z = SignTakes s x z
UnaryTakes unary.Inverse x z = (t u : Ty) × (x ≡ relation_sort t u) × (z ≡ relation_sort u t)
UnaryTakes unary.Not x z = (x ≡ predicate) × (z ≡ predicate)

abbrev pub constant_sort : Constant → Sort
constant_sort True = predicate
constant_sort False = predicate
constant_sort _ = set_sort int

-- what is wrong with two operands that a rule doesn't take together: where one has to fit the other, the type that is needed and the one that is found
abbrev pub Disagreement : Rule → (left right : Sort) → Offence → Type 0
Disagreement rule.Belonging x y o = (t u : Ty) × (x ≡ typed t) × (y ≡ set_sort u) × (o ≡ unfit u t)
Disagreement rule.Applying x y o = (t u v : Ty) × (x ≡ relation_sort t u) × (y ≡ typed v) × (o ≡ unfit t v)
Disagreement rule.Imaging x y o = (t u v : Ty) × (x ≡ relation_sort t u) × (y ≡ set_sort v) × (o ≡ unfit (power t) (power v))
Disagreement rule.DomainRestricting x y o = (t u v : Ty) × (x ≡ set_sort v) × (y ≡ relation_sort t u) × (o ≡ unfit (power t) (power v))
Disagreement rule.RangeRestricting x y o = (t u v : Ty) × (x ≡ relation_sort t u) × (y ≡ set_sort v) × (o ≡ unfit (power u) (power v))
Disagreement rule.Composing x y o = (t n f v : Ty) × (x ≡ relation_sort t n) × (y ≡ relation_sort f v) × (o ≡ unfit n f)
Disagreement _ x y o = o ≡ mismatch x y
