use Rattle.zf_plan.proofs.Prelude.{◌+◌, ◌≡◌, length, replicate, rules}
use Rattle.zf_plan.proofs.Looking.{unknown-stamped, unknown-new}
use Rattle.zf_plan.proofs.memo.Memo.new.Goals as goal

pub invariant_of-result : goal.invariant_of-result
invariant_of-result g c =
    let n = length c.args.ranges.now in
    let ones : c.in_ok-stamps.stamps.items ≡ replicate (n + 1) 1 = search rules in
    unknown-stamped (g.J.Judge.conjuncts c.args.judge.now) c.in_ok-stamps.stamps.items c.in_ok-leaves.leaves.items c.in_ok-leaves.ensures n ones c.requires.due

pub returns : goal.returns
returns g c =
    let n = length c.args.ranges.now in
    let ones : c.in_ok-stamps.stamps.items ≡ replicate (n + 1) 1 = search rules in
    unknown-new (g.J.Judge.conjuncts c.args.judge.now) c.in_ok-stamps.stamps.items c.in_ok-leaves.leaves.items c.in_ok-leaves.ensures n ones c.requires.due
    (g.J.Judge.is_used c.args.judge.now) c.args.ranges.now c.in_ok-tables.tables.each.items c.in_ok-tables.ensures
