-- The levels of the grammar (the binding powers of ZRM 6), the loosest first, and the trees whose children all stand at a level that fits.
use Rattle.std.specs.Prelude.{ℕ, ◌+◌, ◌≤◌}
use Rattle.std.specs.List.{AllByRecursion}
use Rattle.zf_tree.specs.declared.symbol.Connective.{Connective}
use Rattle.zf_tree.specs.declared.symbol.Connective.TheVariants.{And, Or, Implies, Iff}
use Rattle.zf_tree.specs.declared.symbol.Infix.{Infix}
use Rattle.zf_tree.specs.declared.symbol.Infix.TheVariants.{Maplet, UpTo, Plus, Minus, Union, Difference, Times, Div, Mod, Intersection, Composition, Overriding, DomainRestriction, RangeRestriction, DomainSubtraction, RangeSubtraction}
use Rattle.zf_tree.specs.declared.symbol.Prefix.TheVariants.{Domain, Range, Size}
use Rattle.zf_tree.specs.declared.operator.Listed.{Listed}
use Rattle.zf_tree.specs.declared.operator.Listed.TheVariants as list
use Rattle.zf_tree.specs.declared.operator.Operator.{Operator}
use Rattle.zf_tree.specs.declared.operator.Operator.TheVariants as operator
use Rattle.zf_tree.specs.declared.operator.Sign.{Sign}
use Rattle.zf_tree.specs.declared.operator.Sign.TheVariants as sign
use Rattle.zf_tree.specs.declared.operator.Unary.{Unary}
use Rattle.zf_tree.specs.declared.operator.Unary.TheVariants as one
use Rattle.zf_tree.specs.{abbreviation, absent, binary, both, BoxTree, bracket, comprehension, chain, DeclTree, definition, either, empty_set, include, link, Links, listed, no_decls, no_links, no_trees, ParagraphTree, Perhaps, present, quantified, schema_box, schema_bracket, schema_reference, schema_text, SchemaTree, Tree, tree, unary, var_decl, VarDecls, vars, zed}
use Rattle.zf_tree.specs.Trees.{Trees}

-- a quantifier; the place of any term
abbrev pub quantifier_level : ℕ
quantifier_level = 0

abbrev pub negation_level : ℕ
negation_level = 5

abbrev pub chain_level : ℕ
chain_level = 6

-- infix generics; the place of any expression
abbrev pub expression_level : ℕ
expression_level = 7

abbrev pub product_level : ℕ
product_level = 8

-- the level of the loosest infix function less one
abbrev pub function_level : ℕ
function_level = 8

-- `\power`, `\finset` and the minus of one number
abbrev pub power_level : ℕ
power_level = 15

abbrev pub application_level : ℕ
application_level = 16

abbrev pub prefix_level : ℕ
prefix_level = 17

abbrev pub postfix_level : ℕ
postfix_level = 18

abbrev pub atom_level : ℕ
atom_level = 19

abbrev pub connective_level : Connective → ℕ
connective_level Iff = 1
connective_level Implies = 2
connective_level Or = 3
connective_level And = 4

-- the priorities of the infix functions, the loosest first
abbrev pub priority : Infix → ℕ
priority Maplet = 1
priority UpTo = 2
priority Plus = 3
priority Minus = 3
priority Union = 3
priority Difference = 3
priority Times = 4
priority Div = 4
priority Mod = 4
priority Intersection = 4
priority Composition = 4
priority Overriding = 5
priority DomainRestriction = 6
priority RangeRestriction = 6
priority DomainSubtraction = 6
priority RangeSubtraction = 6

abbrev pub infix_level : Infix → ℕ
infix_level op = function_level + priority op

abbrev pub sign_level : Sign → ℕ
sign_level (sign.Symbol Domain) = prefix_level
sign_level (sign.Symbol Range) = prefix_level
sign_level (sign.Symbol Size) = prefix_level
sign_level _ = power_level

-- of a term over one operand; the operand's place too
abbrev pub unary_level : Unary → ℕ
unary_level (one.Sign s) = sign_level s
unary_level one.Inverse = postfix_level
unary_level one.Not = negation_level

abbrev pub operator_level : Operator → ℕ
operator_level (operator.Function op) = infix_level op
operator_level (operator.Generic a) = expression_level
operator_level (operator.Connective c) = connective_level c
operator_level operator.Application = application_level
operator_level operator.Image = postfix_level

-- infix generics and `\implies` are to the right, the others to the left
abbrev pub left_place : Operator → ℕ
left_place (operator.Generic a) = product_level
left_place (operator.Connective Implies) = 3
left_place op = operator_level op

abbrev pub right_place : Operator → ℕ
right_place (operator.Generic a) = expression_level
right_place (operator.Connective Implies) = 2
right_place operator.Application = postfix_level
right_place operator.Image = expression_level
right_place op = operator_level op + 1

abbrev pub listed_level : Listed → ℕ
listed_level list.Product = product_level
listed_level _ = atom_level

abbrev pub member_place : Listed → ℕ
member_place list.Product = product_level + 1
member_place _ = expression_level

abbrev pub level : Tree → ℕ
level (quantified s q ds p t) = quantifier_level
level (unary s op t) = unary_level op
level (binary s op a b) = operator_level op
level (listed s form ts) = listed_level form
level (chain s t ks) = chain_level
level _ = atom_level

abbrev pub AreTwo : Trees → Type 0
AreTwo (tree t (tree u ts)) = Unit {0}
AreTwo _ = ⊥

-- a tuple and a product have two terms at least
abbrev pub AreEnough : Listed → Trees → Type 0
AreEnough list.Display ts = Unit {0}
AreEnough _ ts = AreTwo ts

abbrev mutual
  pub IsLevelled : Tree → Type 0
  IsLevelled (empty_set s t) = (expression_level ≤ level t) × IsLevelled t
  IsLevelled (bracket s t) = IsLevelled t
  IsLevelled (listed s form ts) = AreEnough form ts × AreAt (member_place form) ts
  IsLevelled (comprehension s ds p t) = DeclsAreLevelled ds × PartIsAt quantifier_level p × PartIsAt expression_level t
  IsLevelled (unary s op t) = (unary_level op ≤ level t) × IsLevelled t
  IsLevelled (binary s op a b) = (left_place op ≤ level a) × IsLevelled a × (right_place op ≤ level b) × IsLevelled b
  IsLevelled (chain s t ks) = (expression_level ≤ level t) × IsLevelled t × LinksAreLevelled ks
  IsLevelled (quantified s q ds p t) = DeclsAreLevelled ds × PartIsAt quantifier_level p × IsLevelled t
  IsLevelled _ = Unit {0}

  pub AreAt : ℕ → Trees → Type 0
  AreAt place no_trees = Unit {0}
  AreAt place (tree t ts) = (place ≤ level t) × IsLevelled t × AreAt place ts

  -- the operands of a chain are expressions
  pub LinksAreLevelled : Links → Type 0
  LinksAreLevelled no_links = Unit {0}
  LinksAreLevelled (link r t ks) = (expression_level ≤ level t) × IsLevelled t × LinksAreLevelled ks

  pub DeclsAreLevelled : VarDecls → Type 0
  DeclsAreLevelled no_decls = Unit {0}
  DeclsAreLevelled (var_decl ns t ds) = (expression_level ≤ level t) × IsLevelled t × DeclsAreLevelled ds

  pub PartIsAt : ℕ → Perhaps → Type 0
  PartIsAt place absent = Unit {0}
  PartIsAt place (present t) = (place ≤ level t) × IsLevelled t

-- a levelled tree of this level or a tighter one
abbrev pub IsAt : ℕ → Tree → Type 0
IsAt place t = (place ≤ level t) × IsLevelled t

abbrev pub DeclIsLevelled : DeclTree → Type 0
DeclIsLevelled (vars ns t) = IsAt expression_level t
DeclIsLevelled (include r) = Unit {0}

-- disjunction is looser than conjunction, and both are to the left
abbrev pub schema_level : SchemaTree → ℕ
schema_level (either s a b) = 0
schema_level (both s a b) = 1
schema_level _ = 2

abbrev pub SchemaIsLevelled : SchemaTree → Type 0
SchemaIsLevelled (schema_text s ds ps) = AllByRecursion DeclIsLevelled ds × AllByRecursion IsLevelled ps
SchemaIsLevelled (schema_reference s r) = Unit {0}
SchemaIsLevelled (both s a b) = (1 ≤ schema_level a) × (2 ≤ schema_level b) × SchemaIsLevelled a × SchemaIsLevelled b
SchemaIsLevelled (either s a b) = (1 ≤ schema_level b) × SchemaIsLevelled a × SchemaIsLevelled b
SchemaIsLevelled (schema_bracket s a) = SchemaIsLevelled a

abbrev pub ParagraphIsLevelled : ParagraphTree → Type 0
ParagraphIsLevelled (abbreviation n t) = IsAt expression_level t
ParagraphIsLevelled (definition n a) = SchemaIsLevelled a
ParagraphIsLevelled _ = Unit {0}

abbrev pub BoxIsLevelled : BoxTree → Type 0
BoxIsLevelled (zed ps) = AllByRecursion ParagraphIsLevelled ps
BoxIsLevelled (schema_box n ds ps) = AllByRecursion DeclIsLevelled ds × AllByRecursion IsLevelled ps
