use Rattle.zf_enum.proofs.Prelude.{rules, ap₂, arith, ℤ, pos, ◌*ℤ◌, ◌≤ℤ◌, ◌<ℤ◌, FitsSigned, w32, ints, to_z-of_z, IfOk-weaker}
use Rattle.zf_enum.proofs.Spanning.{told, up_spans, down_spans}
use Rattle.zf_enum.proofs.interval.Interval.multiplied.Goals as goal

pub returns-then-factor-lt0 : goal.returns-then-factor-lt0
returns-then-factor-lt0 c =
    let f : FitsSigned w32 c.args.factor = c.ranges.factor in
    let sign : c.args.factor <ℤ pos 0 = grind (arith, ints) in
    IfOk-weaker c.made.result _ _
    (λ s h. (
      h.0,
      λ v n p. down_spans c.args.factor c.args.self s v n sign
          (told c.checked_mul-times.result _ _ _ (c.args.factor *ℤ c.args.self.times) c.checked_mul-times.ensures h.1
          (ap₂ (λ (i j : ℤ). i *ℤ j) (to_z-of_z w32 c.args.factor c.ranges.factor) (to_z-of_z w32 c.args.self.times (search rules))))
          (told c.checked_mul-other.result _ _ _ (c.args.factor *ℤ c.args.self.high) c.checked_mul-other.ensures h.2
          (ap₂ (λ (i j : ℤ). i *ℤ j) (to_z-of_z w32 c.args.factor c.ranges.factor) (to_z-of_z w32 c.args.self.high (search rules))))
          (told c.checked_mul-one.result _ _ _ (c.args.factor *ℤ c.args.self.low) c.checked_mul-one.ensures h.3
          (ap₂ (λ (i j : ℤ). i *ℤ j) (to_z-of_z w32 c.args.factor c.ranges.factor) (to_z-of_z w32 c.args.self.low (search rules))))
          p,
    ))
    c.made.ensures

pub returns-else-factor-lt0 : goal.returns-else-factor-lt0
returns-else-factor-lt0 c =
    let f : FitsSigned w32 c.args.factor = c.ranges.factor in
    let sign : pos 0 ≤ℤ c.args.factor = grind (arith, ints) in
    IfOk-weaker c.made-else-factor-lt0.result _ _
    (λ s h. (
      h.0,
      λ v n p. up_spans c.args.factor c.args.self s v n sign
          (told c.checked_mul-times.result _ _ _ (c.args.factor *ℤ c.args.self.times) c.checked_mul-times.ensures h.1
          (ap₂ (λ (i j : ℤ). i *ℤ j) (to_z-of_z w32 c.args.factor c.ranges.factor) (to_z-of_z w32 c.args.self.times (search rules))))
          (told c.checked_mul-one.result _ _ _ (c.args.factor *ℤ c.args.self.low) c.checked_mul-one.ensures h.2
          (ap₂ (λ (i j : ℤ). i *ℤ j) (to_z-of_z w32 c.args.factor c.ranges.factor) (to_z-of_z w32 c.args.self.low (search rules))))
          (told c.checked_mul-other.result _ _ _ (c.args.factor *ℤ c.args.self.high) c.checked_mul-other.ensures h.3
          (ap₂ (λ (i j : ℤ). i *ℤ j) (to_z-of_z w32 c.args.factor c.ranges.factor) (to_z-of_z w32 c.args.self.high (search rules))))
          p,
    ))
    c.made-else-factor-lt0.ensures
