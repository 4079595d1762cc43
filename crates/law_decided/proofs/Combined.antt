-- What operands that are what their places need make, by the rule of their symbol, or that the rule does not take them together.
use Rattle.law_decided.proofs.Prelude.{◌⊎◌, inl, inr, refl, left_need, need_of, prefix_need, right_need, sign_need, Unary, int, pair_type, power, mismatch, Offence, unfit, Disagreement, Meets, number_sort, predicate, PrefixTakes, relation_sort, set_sort, SignTakes, Sort, Takes, typed, UnaryTakes}
use Rattle.zf_tree.specs.declared.symbol.Prefix.{Prefix}
use Rattle.zf_tree.specs.declared.symbol.Prefix.TheVariants.{Power, Finset, Domain, Range, Size}
use Rattle.zf_tree.specs.declared.operator.Sign.{Sign}
use Rattle.zf_tree.specs.declared.operator.Sign.TheVariants as sign
use Rattle.zf_tree.specs.declared.operator.Rule.{Rule}
use Rattle.zf_tree.specs.declared.operator.Rule.TheVariants as rule
use Rattle.zf_tree.specs.declared.operator.Unary.TheVariants as unary
use Rattle.law_decided.proofs.Decided.{Decided, same_type, both}

-- the rule takes the two together, or nothing is a whole of them
abbrev pub AreCombined : Rule → Sort → Sort → Type 0
AreCombined r x y = ((z : Sort) × Takes r x y z) ⊎ ((z : Sort) → Takes r x y z → ⊥)

where_so : {P C : Type 0} {D : Sort → Type 0} → (P → C) → ((z : Sort) → D z → P) → Decided P → C ⊎ ((z : Sort) → D z → ⊥)
where_so f g (inl p) = inl (f p)
where_so f g (inr p) = inr (λ z d. p (g z d))

pub combined : (r : Rule) (x y : Sort) → Meets (left_need r) x → Meets (right_need r) y → AreCombined r x y
combined rule.Arithmetic x y p q = inl (number_sort, (p, q, refl))
combined rule.Interval x y p q = inl (set_sort int, (p, q, refl))
combined rule.Pairing x y p q = inl (typed (pair_type p.0 q.0), (p.0, q.0, p.1, q.1, refl))
combined rule.SetFunction x y p q = where_so (λ e. (set_sort p.0, (p.0, p.1, (cc), refl))) (λ z w. (cc)) (same_type p.0 q.0)
combined rule.Overriding x y p q = where_so (λ e. (relation_sort p.0 p.1, (p.0, p.1, p.2, (cc), refl))) (λ z w. ((cc), (cc))) (both (same_type p.0 q.0) (same_type p.1 q.1))
combined rule.Composing x y p q = where_so (λ e. (relation_sort p.0 q.1, (p.0, p.1, q.1, p.2, (cc), refl))) (λ z w. (cc)) (same_type p.1 q.0)
combined rule.DomainRestricting x y p q = where_so (λ e. (relation_sort p.0 q.1, (p.0, q.1, p.1, (cc), refl))) (λ z w. (cc)) (same_type p.0 q.0)
combined rule.RangeRestricting x y p q = where_so (λ e. (relation_sort p.0 p.1, (p.0, p.1, p.2, (cc), refl))) (λ z w. (cc)) (same_type p.1 q.0)
combined rule.Relating x y p q = inl (set_sort (power (pair_type p.0 q.0)), (p.0, q.0, p.1, q.1, refl))
combined rule.Applying x y p q = where_so (λ e. (typed p.1, (p.0, p.1, p.2, (cc), refl))) (λ z w. (cc)) (same_type p.0 q.0)
combined rule.Imaging x y p q = where_so (λ e. (set_sort p.1, (p.0, p.1, p.2, (cc), refl))) (λ z w. (cc)) (same_type p.0 q.0)
combined rule.Comparing x y p q = inl (predicate, (p, q, refl))
combined rule.Connecting x y p q = inl (predicate, (p, q, refl))
combined _ x y p q = where_so (λ e. (predicate, (p.0, p.1, (cc), refl))) (λ z w. (cc)) (same_type p.0 q.0)

-- what is wrong with operands that a rule doesn't take together
pub disagreement : (r : Rule) (x y : Sort) → Meets (left_need r) x → Meets (right_need r) y → (o : Offence) × Disagreement r x y o
disagreement rule.Composing x y p q = (unfit p.1 q.0, (p.0, p.1, q.0, q.1, p.2, q.2, refl))
disagreement rule.DomainRestricting x y p q = (unfit (power q.0) (power p.0), (q.0, q.1, p.0, p.1, q.2, refl))
disagreement rule.RangeRestricting x y p q = (unfit (power p.1) (power q.0), (p.0, p.1, q.0, p.2, q.1, refl))
disagreement rule.Applying x y p q = (unfit p.0 q.0, (p.0, p.1, q.0, p.2, q.1, refl))
disagreement rule.Imaging x y p q = (unfit (power p.0) (power q.0), (p.0, p.1, q.0, p.2, q.1, refl))
disagreement rule.Belonging x y p q = (unfit q.0 p.0, (p.0, q.0, p.1, q.1, refl))
disagreement _ x y p q = (mismatch x y, refl)

prefixed : (op : Prefix) (x : Sort) → Meets (prefix_need op) x → (z : Sort) × PrefixTakes op x z
prefixed Power x p = (set_sort (power p.0), (p.0, p.1, refl))
prefixed Finset x p = (set_sort (power p.0), (p.0, p.1, refl))
prefixed Size x p = (number_sort, (p.0, p.1, refl))
prefixed Domain x p = (set_sort p.0, (p.0, p.1, p.2, refl))
prefixed Range x p = (set_sort p.1, (p.0, p.1, p.2, refl))

signed : (op : Sign) (x : Sort) → Meets (sign_need op) x → (z : Sort) × SignTakes op x z
signed sign.Minus x p = (number_sort, (p, refl))
signed (sign.Symbol op) x p = prefixed op x p

-- one operand that is what its place needs always makes something
pub made : (op : Unary) (x : Sort) → Meets (need_of op) x → (z : Sort) × UnaryTakes op x z
made (unary.Sign op) x p = signed op x p
made unary.Inverse x p = (relation_sort p.1 p.0, (p.0, p.1, p.2, refl))
made unary.Not x p = (predicate, (p, refl))
