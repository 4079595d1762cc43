use Rattle.zf_value.proofs.Prelude.{◌∙◌, inl, of_z, refl, rules, sym, to_z, w64, int_rem, IsModulus, ℤ, FitsSigned, ◌+ℤ◌}
use Rattle.zf_value.proofs.Exactly.{same, both_same, is_zero, not_zero, remainder_same, modulus_down, modulus_up}
use Rattle.zf_value.proofs.number.modulus.Goals as goal

pub returns-then-b-eq0 : goal.returns-then-b-eq0
unfolding IsModulus
returns-then-b-eq0 c = inl (is_zero c.args.b c.ranges.b c.if-b-eq0.true, refl)

pub returns-then-not-is_remainder : goal.returns-then-not-is_remainder
returns-then-not-is_remainder c =
    let f : FitsSigned w64 c.wrapping_rem-r.result = search rules in
    let e = same c.wrapping_rem-r.result f in
    let b = same c.args.b c.ranges.b in
    let g : FitsSigned w64 (to_z w64 (of_z w64 c.wrapping_rem-r.result) +ℤ to_z w64 (of_z w64 c.args.b)) = search rules in
    modulus_up c.args.a c.args.b c.wrapping_rem-r.result _ (same _ g ∙ both_same (λ (x y : ℤ). x +ℤ y) _ _ f c.ranges.b)
    (c.wrapping_rem-r.ensures ∙ both_same int_rem _ _ c.ranges.a c.ranges.b) (not_zero _ c.if-b-eq0.false)
    (λ h. let t = c.is_remainder.ensures.1 (remainder_same _ _ _ _ (sym b) (sym e) h) in let n = c.if-not-is_remainder.true in (cc)) c.ranges.b

pub returns : goal.returns
returns c =
    let f : FitsSigned w64 c.wrapping_rem-r.result = search rules in
    let e = same c.wrapping_rem-r.result f in
    modulus_down c.args.a c.args.b c.wrapping_rem-r.result _ e (c.wrapping_rem-r.ensures ∙ both_same int_rem _ _ c.ranges.a c.ranges.b)
    (remainder_same _ _ _ _ (same _ c.ranges.b) e (c.is_remainder.ensures.0 c.if-not-is_remainder.false)) c.ranges.b
