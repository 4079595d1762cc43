-- The rule of types that each symbol has, and what the places of its operands need.
use Rattle.zf_tree.specs.declared.symbol.Infix.{Infix}
use Rattle.zf_tree.specs.declared.symbol.Infix.TheVariants.{Maplet, UpTo, Plus, Minus, Union, Difference, Times, Div, Mod, Intersection, Composition, Overriding, DomainRestriction, RangeRestriction, DomainSubtraction, RangeSubtraction}
use Rattle.zf_tree.specs.declared.symbol.Prefix.{Prefix}
use Rattle.zf_tree.specs.declared.symbol.Prefix.TheVariants.{Domain, Range}
use Rattle.zf_tree.specs.declared.symbol.Relation.{Relation}
use Rattle.zf_tree.specs.declared.symbol.Relation.TheVariants.{Equal, NotEqual, Member, NotMember, Subset, ProperSubset}
use Rattle.zf_tree.specs.declared.operator.Sign.{Sign}
use Rattle.zf_tree.specs.declared.operator.Sign.TheVariants as sign
use Rattle.zf_tree.specs.declared.operator.Need.{Need}
use Rattle.zf_tree.specs.declared.operator.Need.TheVariants as need
use Rattle.zf_tree.specs.declared.operator.Operator.{Operator}
use Rattle.zf_tree.specs.declared.operator.Operator.TheVariants as operator
use Rattle.zf_tree.specs.declared.operator.Rule.{Rule}
use Rattle.zf_tree.specs.declared.operator.Rule.TheVariants as rule
use Rattle.zf_tree.specs.declared.operator.Unary.{Unary}
use Rattle.zf_tree.specs.declared.operator.Unary.TheVariants as unary

abbrev pub function_rule : Infix → Rule
function_rule Maplet = rule.Pairing
function_rule UpTo = rule.Interval
function_rule Plus = rule.Arithmetic
function_rule Minus = rule.Arithmetic
function_rule Times = rule.Arithmetic
function_rule Div = rule.Arithmetic
function_rule Mod = rule.Arithmetic
function_rule Union = rule.SetFunction
function_rule Intersection = rule.SetFunction
function_rule Difference = rule.SetFunction
function_rule Composition = rule.Composing
function_rule Overriding = rule.Overriding
function_rule DomainRestriction = rule.DomainRestricting
function_rule DomainSubtraction = rule.DomainRestricting
function_rule RangeRestriction = rule.RangeRestricting
function_rule RangeSubtraction = rule.RangeRestricting

abbrev pub rule_of : Operator → Rule
rule_of (operator.Function op) = function_rule op
rule_of (operator.Generic op) = rule.Relating
rule_of (operator.Connective c) = rule.Connecting
rule_of operator.Application = rule.Applying
rule_of operator.Image = rule.Imaging

abbrev pub relation_rule : Relation → Rule
relation_rule Equal = rule.Equating
relation_rule NotEqual = rule.Equating
relation_rule Member = rule.Belonging
relation_rule NotMember = rule.Belonging
relation_rule Subset = rule.Including
relation_rule ProperSubset = rule.Including
relation_rule _ = rule.Comparing

-- of the left and of the right operand
abbrev pub needs : Rule → Need × Need
needs rule.Arithmetic = (need.Number, need.Number)
needs rule.Interval = (need.Number, need.Number)
needs rule.Pairing = (need.Expression, need.Expression)
needs rule.SetFunction = (need.Set, need.Set)
needs rule.Overriding = (need.Relation, need.Relation)
needs rule.Composing = (need.Relation, need.Relation)
needs rule.DomainRestricting = (need.Set, need.Relation)
needs rule.RangeRestricting = (need.Relation, need.Set)
needs rule.Relating = (need.Set, need.Set)
needs rule.Applying = (need.Relation, need.Expression)
needs rule.Imaging = (need.Relation, need.Set)
needs rule.Equating = (need.Expression, need.Expression)
needs rule.Belonging = (need.Expression, need.Set)
needs rule.Including = (need.Set, need.Set)
needs rule.Comparing = (need.Number, need.Number)
needs rule.Connecting = (need.Predicate, need.Predicate)

abbrev pub left_need : Rule → Need
left_need r = (needs r).0

abbrev pub right_need : Rule → Need
right_need r = (needs r).1

abbrev pub prefix_need : Prefix → Need
prefix_need Domain = need.Relation
prefix_need Range = need.Relation
prefix_need _ = need.Set

abbrev pub sign_need : Sign → Need
sign_need sign.Minus = need.Number
sign_need (sign.Symbol p) = prefix_need p

abbrev pub need_of : Unary → Need
need_of (unary.Sign s) = sign_need s
need_of unary.Inverse = need.Relation
need_of unary.Not = need.Predicate
