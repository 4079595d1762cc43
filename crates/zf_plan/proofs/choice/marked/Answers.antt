use Rattle.zf_plan.proofs.Prelude.{arith}
use Rattle.zf_plan.proofs.Sieving.{all-marked}
use Rattle.zf_plan.proofs.choice.marked.Goals as goal

pub returns : goal.returns
returns c = all-marked c.args.places.now.items c.loop-i.passes.items c.args.length c.loop-i.i c.loop-i.invariant.0 c.loop-i.invariant.1
    (omega (arith, c.loop-i-test.false, c.loop-i.auto.i-end, c.len-i-end.ensures, c.args.places.now.ok.0))
