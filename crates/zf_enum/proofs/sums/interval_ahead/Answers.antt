use Rattle.zf_enum.proofs.Prelude.{◌≡◌, ◌∙◌, ap, arith, ℕ, List, Some, subst, slice_get, range-is, Value, Contains, ints, IfOk-weaker, Int}
use Rattle.zf_enum.proofs.Trying.{row_value}
use Rattle.zf_enum.proofs.sums.interval_ahead.Goals as goal

pub returns-then-place-next : goal.returns-then-place-next
returns-then-place-next c = λ row v is at.
    let same : c.args.next ≡ c.args.place = omega (arith, c.if-place-next.true) in
    (v, subst (λ (k : ℕ). slice_get row k ≡ Some (Int v)) same at, (omega (arith, ints), omega (arith, ints)))

pub returns-then-place-ranges : goal.returns-then-place-ranges
returns-then-place-ranges c =
    let column = range-is c.args.ranges.now c.args.place c.index-ranges-place.result (omega (arith, c.if-place-ranges.true)) c.index-ranges-place.is in
    IfOk-weaker c.interval_over.result _ _
    (λ s h row v is at.
    let r = row_value c.args.ranges.now row c.args.place is (omega (arith, c.if-place-ranges.true)) in
    let x = h r.1 (subst (λ (range : List Value). Contains range r.1) column (r.0, r.2.within, r.2.is)) in
    (x.0, r.3 ∙ ap Some x.1, x.2 v))
    c.interval_over.ensures
