-- Bounds of the table of levels, and which symbols may stand after which terms.
use Rattle.zf_grammar.proofs.Prelude.{◌+◌, ◌<◌, ◌≤◌, arith, ℕ, Listed, Operator, Sign, Unary, And, Implies, Maplet, atom_level, chain_level, expression_level, infix_level, left_place, level, listed_level, member_place, operator_level, postfix_level, priority, product_level, quantifier_level, right_place, sign_level, unary_level}
use Rattle.zf_tree.specs.declared.symbol.Infix.{Infix}
use Rattle.zf_tree.specs.declared.symbol.Prefix.TheVariants.{Power, Finset}
use Rattle.zf_tree.specs.declared.operator.Listed.TheVariants as list
use Rattle.zf_tree.specs.declared.operator.Operator.TheVariants as operator
use Rattle.zf_tree.specs.declared.operator.Sign.TheVariants as sign
use Rattle.zf_tree.specs.declared.operator.Unary.TheVariants as one
use Rattle.zf_tree.specs.{binary, chain, listed, named, quantified, Tree, unary}

-- ---- bounds of the table

pub priority_some : (op : Infix) → 1 ≤ priority op
priority_some Maplet = omega arith
priority_some _ = omega arith

pub priority_le : (op : Infix) → priority op ≤ 6
priority_le Maplet = omega arith
priority_le _ = omega arith

pub sign_level_le : (s : Sign) → sign_level s ≤ 17
sign_level_le sign.Minus = omega arith
sign_level_le (sign.Symbol Power) = omega arith
sign_level_le (sign.Symbol _) = omega arith

pub unary_level_le : (op : Unary) → unary_level op ≤ postfix_level
unary_level_le (one.Sign s) = omega (arith, sign_level_le s)
unary_level_le _ = omega arith

pub member_place_le : (form : Listed) → member_place form ≤ atom_level
member_place_le list.Product = omega arith
member_place_le _ = omega arith

-- ---- how loose a symbol may be that stands after a tree and is not taken into it

abbrev pub unary_closing : Unary → ℕ
unary_closing one.Inverse = atom_level
unary_closing op = unary_level op

abbrev pub operator_closing : Operator → ℕ
operator_closing operator.Image = atom_level
operator_closing op = right_place op

abbrev pub closing : Tree → ℕ
closing (quantified l q ds p t) = quantifier_level
closing (unary l op t) = unary_closing op
closing (binary l op a b) = operator_closing op
closing (listed l form ts) = listed_level form
closing (chain l t ks) = chain_level
closing _ = atom_level

-- a symbol that binds at `b` may stand after any term that fits the place `p`
pub record Gap (p b : ℕ) : Type 0 where
  pub near : b ≤ p + 1
  pub two : p ≤ 2 → b ≤ 2
  pub five : p ≤ 5 → b ≤ 5
  pub six : p ≤ 6 → b ≤ 6
  pub seven : p ≤ 7 → b ≤ 7
  pub eight : p ≤ 8 → b ≤ 8
  pub fifteen : p ≤ 15 → b ≤ 15
  pub sixteen : p ≤ 16 → b ≤ 17
  pub seventeen : p ≤ 17 → b ≤ 17
  pub top : b ≤ 19

fixed_gap : (p b : ℕ) → b ≤ p + 1 → 6 < p → (p ≤ 7 → b ≤ 7) → (p ≤ 8 → b ≤ 8) → (p ≤ 15 → b ≤ 15) → (p ≤ 17 → b ≤ 17) → b ≤ 19 → Gap p b
fixed_gap p b near high seven eight fifteen seventeen top =
    record {
      near = near;
      two = λ h. omega arith;
      five = λ h. omega arith;
      six = λ h. omega arith;
      seven = seven;
      eight = eight;
      fifteen = fifteen;
      sixteen = λ
          h. omega arith;
      seventeen = seventeen;
      top = top;
    }

loose_gap : (p b : ℕ) → b ≤ p + 1 → (p ≤ 2 → b ≤ 2) → p ≤ 4 → Gap p b
loose_gap p b near two low =
    record {
      near = near;
      two = two;
      five = λ h. omega arith;
      six = λ h. omega arith;
      seven = λ h. omega arith;
      eight = λ h. omega arith;
      fifteen = λ h. omega arith;
      sixteen = λ h. omega arith;
      seventeen = λ h. omega arith;
      top = omega arith;
    }

infix_gap : (op : Infix) → Gap (infix_level op) (infix_level op + 1)
infix_gap op =
    let low = priority_some op in
    let high = priority_le op in
    fixed_gap (infix_level op) (infix_level op + 1) (omega arith) (omega arith) (λ h. omega arith) (λ h. omega arith) (λ h. omega arith) (λ h. omega arith)
    (omega arith)

pub chain_gap : Gap expression_level (chain_level + 1)
chain_gap = fixed_gap 7 7 (omega arith) (omega arith) (λ h. omega arith) (λ h. omega arith) (λ h. omega arith) (λ h. omega arith) (omega arith)

pub cross_gap : Gap (product_level + 1) (product_level + 1)
cross_gap = fixed_gap 9 9 (omega arith) (omega arith) (λ h. omega arith) (λ h. omega arith) (λ h. omega arith) (λ h. omega arith) (omega arith)

pub postfix_gap : Gap postfix_level (postfix_level + 1)
postfix_gap = fixed_gap 18 19 (omega arith) (omega arith) (λ h. omega arith) (λ h. omega arith) (λ h. omega arith) (λ h. omega arith) (omega arith)

-- how an operator stands in the table
pub record Stands (op : Operator) : Type 0 where
  pub low : operator_level op ≤ postfix_level
  pub right : right_place op ≤ postfix_level
  pub some : 0 < left_place op
  pub left : operator_level op ≤ left_place op
  pub closes : operator_level op ≤ operator_closing op

pub stands : (op : Operator) → Stands op
stands (operator.Function op) =
    let some = priority_some op in
    let high = priority_le op in
    record { low = omega arith; right = omega arith; some = omega arith; left = omega arith; closes = omega arith }
stands (operator.Connective And) = record { low = omega arith; right = omega arith; some = omega arith; left = omega arith; closes = omega arith }
stands _ = record { low = omega arith; right = omega arith; some = omega arith; left = omega arith; closes = omega arith }

pub operator_gap : (op : Operator) → Gap (left_place op) (operator_level op + 1)
operator_gap (operator.Function op) = infix_gap op
operator_gap (operator.Generic a) =
    fixed_gap 8 8 (omega arith) (omega arith) (λ h. omega arith) (λ h. omega arith) (λ h. omega arith) (λ h. omega arith) (omega arith)
operator_gap (operator.Connective And) = loose_gap _ _ (omega arith) (λ h. omega arith) (omega arith)
operator_gap (operator.Connective _) = loose_gap _ _ (omega arith) (λ h. omega arith) (omega arith)
operator_gap operator.Application =
    fixed_gap 16 17 (omega arith) (omega arith) (λ h. omega arith) (λ h. omega arith) (λ h. omega arith) (λ h. omega arith) (omega arith)
operator_gap operator.Image = postfix_gap

operator_gaps : (op : Operator) (p b : ℕ) → Gap p b → p ≤ operator_level op → b ≤ operator_closing op
operator_gaps (operator.Function op) p b g fits = omega (arith, g.near)
operator_gaps (operator.Generic a) p b g fits = g.seven fits
operator_gaps (operator.Connective Implies) p b g fits = g.two fits
operator_gaps (operator.Connective _) p b g fits = omega (arith, g.near)
operator_gaps operator.Application p b g fits = omega (arith, g.sixteen fits)
operator_gaps operator.Image p b g fits = g.top

unary_gaps : (op : Unary) (p b : ℕ) → Gap p b → p ≤ unary_level op → b ≤ unary_closing op
unary_gaps one.Not p b g fits = g.five fits
unary_gaps one.Inverse p b g fits = g.top
unary_gaps (one.Sign sign.Minus) p b g fits = g.fifteen fits
unary_gaps (one.Sign (sign.Symbol Power)) p b g fits = g.fifteen fits
unary_gaps (one.Sign (sign.Symbol Finset)) p b g fits = g.fifteen fits
unary_gaps (one.Sign (sign.Symbol _)) p b g fits = g.seventeen fits

listed_gaps : (form : Listed) (p b : ℕ) → Gap p b → p ≤ listed_level form → b ≤ listed_level form
listed_gaps list.Product p b g fits = g.eight fits
listed_gaps _ p b g fits = g.top

pub closes : (t : Tree) (p b : ℕ) → Gap p b → 0 < p → p ≤ level t → b ≤ closing t
closes (quantified l q ds u t) p b g some fits = absurd (omega arith)
closes (unary l op t) p b g some fits = unary_gaps op p b g fits
closes (binary l op x y) p b g some fits = operator_gaps op p b g fits
closes (listed l form ts) p b g some fits = listed_gaps form p b g fits
closes (chain l t ks) p b g some fits = g.six fits
closes _ p b g some fits = g.top

unary_closes : (op : Unary) → unary_level op ≤ unary_closing op
unary_closes one.Inverse = omega arith
unary_closes _ = omega arith

pub level_closes : (t : Tree) → level t ≤ closing t
level_closes (named n) = omega arith
level_closes (unary l op t) = unary_closes op
level_closes (binary l op a b) = (stands op).closes
level_closes _ = omega arith

listed_level_le : (form : Listed) → listed_level form ≤ atom_level
listed_level_le list.Product = omega arith
listed_level_le _ = omega arith

pub level_le : (t : Tree) → level t ≤ atom_level
level_le (named n) = omega arith
level_le (unary l op t) = omega (arith, unary_level_le op)
level_le (binary l op x y) = omega (arith, (stands op).low)
level_le (listed l form ts) = listed_level_le form
level_le _ = omega arith
