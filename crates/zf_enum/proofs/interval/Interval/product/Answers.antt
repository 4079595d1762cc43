use Rattle.zf_enum.proofs.Prelude.{rules, subst, sym, ap, ◌≡◌, ◌∙◌, arith, ℤ, pos, ◌*ℤ◌, FitsSigned, w32, ints, to_z-of_z, IfOk-weaker, Spans, *ℤ_comm}
use Rattle.zf_enum.proofs.Spanning.{only}
use Rattle.zf_enum.proofs.interval.Interval.product.Goals as goal

pub returns-then-self : goal.returns-then-self
returns-then-self c =
    let f : FitsSigned w32 c.args.self.times = search rules in
    let g : FitsSigned w32 c.args.self.low = search rules in
    let k : FitsSigned w32 c.args.self.high = search rules in
    let none : c.args.self.times ≡ pos 0 = grind (arith, ints) in
    let same : c.args.self.low ≡ c.args.self.high = grind (arith, ints) in
    IfOk-weaker c.multiplied.result _ _
    (λ s h. (h.0, λ v m n p q. subst (λ (x : ℤ). Spans s v (x *ℤ n)) (to_z-of_z w32 c.args.self.low g ∙ sym (only c.args.self v m none same p)) (h.1 v n q)))
    c.multiplied.ensures

pub returns-then-other : goal.returns-then-other
returns-then-other c =
    let f : FitsSigned w32 c.args.other.times = search rules in
    let g : FitsSigned w32 c.args.other.low = search rules in
    let k : FitsSigned w32 c.args.other.high = search rules in
    let none : c.args.other.times ≡ pos 0 = grind (arith, ints) in
    let same : c.args.other.low ≡ c.args.other.high = grind (arith, ints) in
    IfOk-weaker c.multiplied-then-other.result _ _
    (λ s h. (h.0, λ v m n p q. subst (λ (x : ℤ). Spans s v x) (ap (λ (x : ℤ). x *ℤ m) (to_z-of_z w32 c.args.other.low g ∙ sym (only c.args.other v n none same q)) ∙ *ℤ_comm n m) (h.1 v m p)))
    c.multiplied-then-other.ensures
