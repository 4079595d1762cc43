use Rattle.zf_plan.proofs.Prelude.{ap, arith, length, None, range-is, subst, IfSome, IsKeyOf}
use Rattle.zf_plan.proofs.Keying.{keys-leave}
use Rattle.zf_plan.proofs.choosing.narrow_by_keys.Goals as goal

pub returns-clause-leaves : goal.returns-clause-leaves
returns-clause-leaves g c = λ u.
    let problem = c.args.problem.now in
    let ranges = problem.ranges.now in
    let places = c.args.places.now in
    let keys = c.args.keys.now in
    let v = c.range.inside.values in
    let column = range-is ranges (length places) c.index-problem-places.result c.requires.deeper c.index-problem-places.is in
    let l = g.J.Judge.conjuncts problem.judge.now in
    let is_key = g.J.Guide.is_key problem.judge.now c.args.of in
    keys-leave l is_key c.args.of ranges places keys c.gather_keyed.new.gathered.items c.in-Some.wanted c.requires.keys
    (subst (λ found. IfSome found (IsKeyOf l is_key c.args.of ranges places None)) c.in-Some.is c.in_ok-wanted.ensures) c.requires.due
    (omega (arith, c.if-keys-len.false, c.len.ensures, v.ok.0, ap length c.range.view_is, ap length c.index-problem-places.is, ap length column))
    c.in_ok-gather_keyed.ensures.all
