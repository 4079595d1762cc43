use Rattle.zf_plan.proofs.Prelude.{◌≡◌, [], ap, arith, get_or, length, range-is}
use Rattle.zf_plan.proofs.Stepping.{empty-none}
use Rattle.zf_plan.proofs.search.may_begin.Goals as goal

pub returns-then-len-eq0-clause-none : goal.returns-then-len-eq0-clause-none
returns-then-len-eq0-clause-none g c = λ _ row m.
    let ranges = c.args.ranges.now in
    let i = c.loop-i.i in
    let v = c.range.inside.values in
    let range = range-is ranges i c.index-ranges-i.result c.loop-i-test.true c.index-ranges-i.is in
    let none : length (get_or ranges i []) ≡ 0 = omega (arith, c.len.ensures, v.ok.0, ap length c.range.view_is, ap length range, c.if-len-eq0.true) in
    empty-none ranges i c.loop-i-test.true none row m
