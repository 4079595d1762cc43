use Rattle.zf_value.proofs.Prelude.{◌∙◌, ap, inl, refl, rules, subst, sym, to_z, w64, quot_is, rem_is, int_div, IsNegation, IsQuotient, ℤ, pos, FitsSigned, ◌-ℤ◌}
use Rattle.zf_value.proofs.Exactly.{checked, same, is_zero, not_zero, remainder_same, quotient_down, quotient_up, quotient_negated}
use Rattle.zf_value.proofs.number.quotient.Goals as goal

pub returns-then-b-eq0 : goal.returns-then-b-eq0
unfolding IsQuotient
returns-then-b-eq0 c = inl (is_zero c.args.b c.ranges.b c.if-b-eq0.true, refl)

pub returns-then-b-eqminus1 : goal.returns-then-b-eqminus1
returns-then-b-eqminus1 c =
    quotient_negated c.args.a c.args.b _ (sym (same c.args.b c.ranges.b) ∙ ap (to_z w64) c.if-b-eqminus1.true) (subst (λ n. IsNegation n c.negation.result) (same _ c.ranges.a) c.negation.ensures)

pub returns-then-not-is_remainder : goal.returns-then-not-is_remainder
returns-then-not-is_remainder c =
    let f : FitsSigned w64 (int_div c.args.a c.args.b) = search rules in
    let q = quot_is w64 c.args.a c.args.b c.ranges.a c.ranges.b f in
    let r = rem_is w64 c.args.a c.args.b c.ranges.a c.ranges.b in
    quotient_up c.args.a c.args.b _ (not_zero _ c.if-b-eq0.false)
    (λ h. let t = c.is_remainder.ensures.1 (remainder_same _ _ _ _ (sym (same _ c.ranges.b)) (sym r) h) in let n = c.if-not-is_remainder.true in (cc))
    (checked _ _ _ _ (ap (λ (x : ℤ). x -ℤ pos 1) q) c.checked_sub.ensures c.number_or_out.ensures)

pub returns : goal.returns
returns c =
    let f : FitsSigned w64 (int_div c.args.a c.args.b) = search rules in
    let r = rem_is w64 c.args.a c.args.b c.ranges.a c.ranges.b in
    quotient_down c.args.a c.args.b _ (quot_is w64 c.args.a c.args.b c.ranges.a c.ranges.b f)
    (remainder_same _ _ _ _ (same _ c.ranges.b) r (c.is_remainder.ensures.0 c.if-not-is_remainder.false)) f
