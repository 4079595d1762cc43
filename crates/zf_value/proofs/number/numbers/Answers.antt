use Rattle.zf_value.proofs.Prelude.{◌≡◌, arith, of_z, suc, to_z, w64, ints, ◌+ℤ◌, ◌<ℤ◌, pos}
use Rattle.zf_value.proofs.Exactly.{same}
use Rattle.zf_value.proofs.Intervals.{lists_none, lists_all, lists_same, number_more}
use Rattle.zf_value.proofs.number.numbers.Goals as goal

pub returns-then-to-from : goal.returns-then-to-from
returns-then-to-from c = let l : c.args.to <ℤ c.args.from = grind (arith, ints) in lists_none c.args.from c.args.to _ c.new.ensures.items l

pub loop-n-init : goal.loop-n-init
loop-n-init c = (0, omega (arith, ints), c.in_ok-members.ensures.items, grind (arith, ints))

pub loop-n-preserved : goal.loop-n-preserved
loop-n-preserved c =
    let i = c.loop-n.invariant in
    (suc i.0, omega (arith, ints, i.1), number_more _ (to_z w64 c.loop-n.n-bits) i.0 _ _ i.1 i.2 c.in_ok-push.ensures.items, omega (arith, ints))

pub returns : goal.returns
returns c =
    let i = c.loop-n.invariant in
    let from = to_z w64 (of_z w64 c.args.from) in
    let to = to_z w64 (of_z w64 c.args.to) in
    let last : to ≡ from +ℤ pos i.0 = omega (arith, ints, i.1, i.3) in
    lists_same from to _ _ _ (same c.args.from c.ranges.from) (same c.args.to c.ranges.to) (lists_all from to i.0 _ _ last i.2 c.in_ok-push-2.ensures.items)
