use Rattle.zf_enum.proofs.Prelude.{rules, ap₂, ℤ, ◌+ℤ◌, w32, to_z-of_z, IfOk-weaker}
use Rattle.zf_enum.proofs.Spanning.{told, plus_spans}
use Rattle.zf_enum.proofs.interval.Interval.plus.Goals as goal

pub returns : goal.returns
returns c =
    IfOk-weaker c.made.result _ _
    (λ s h. (
      h.0,
      λ v m n p q. plus_spans c.args.self c.args.other s v m n
          (told c.checked_add.result _ _ _ (c.args.self.times +ℤ c.args.other.times) c.checked_add.ensures h.1
          (ap₂ (λ (i j : ℤ). i +ℤ j) (to_z-of_z w32 c.args.self.times (search rules)) (to_z-of_z w32 c.args.other.times (search rules))))
          (told c.checked_add-2.result _ _ _ (c.args.self.low +ℤ c.args.other.low) c.checked_add-2.ensures h.2
          (ap₂ (λ (i j : ℤ). i +ℤ j) (to_z-of_z w32 c.args.self.low (search rules)) (to_z-of_z w32 c.args.other.low (search rules))))
          (told c.checked_add-3.result _ _ _ (c.args.self.high +ℤ c.args.other.high) c.checked_add-3.ensures h.3
          (ap₂ (λ (i j : ℤ). i +ℤ j) (to_z-of_z w32 c.args.self.high (search rules)) (to_z-of_z w32 c.args.other.high (search rules))))
          p q,
    ))
    c.made.ensures
