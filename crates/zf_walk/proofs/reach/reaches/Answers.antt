use Rattle.zf_walk.proofs.Prelude.{◌∙◌, picked, Equal, Greater, Less}
use Rattle.zf_walk.proofs.Reaching.{reaches-drop}
use Rattle.zf_walk.proofs.reach.reaches.Goals as goal

pub returns-in-Less : goal.returns-in-Less
returns-in-Less g c =
    reaches-drop g.V.Ord.cmp g.met.V.Ord.total c.args.here c.args.named.now (picked c.args.ranges.now c.args.places.now) c.loop-i.i c.index-named-i.result
    c.pick.result.now Less c.loop-i-test.true c.index-named-i.is c.pick.ensures c.in-Less.ensures ∙ c.loop-i.invariant

pub returns-in-Greater : goal.returns-in-Greater
returns-in-Greater g c =
    reaches-drop g.V.Ord.cmp g.met.V.Ord.total c.args.here c.args.named.now (picked c.args.ranges.now c.args.places.now) c.loop-i.i c.index-named-i.result
    c.pick.result.now Greater c.loop-i-test.true c.index-named-i.is c.pick.ensures c.in-Greater.ensures ∙ c.loop-i.invariant

pub loop-i-preserved : goal.loop-i-preserved
loop-i-preserved g c =
    reaches-drop g.V.Ord.cmp g.met.V.Ord.total c.args.here c.args.named.now (picked c.args.ranges.now c.args.places.now) c.loop-i.i c.index-named-i.result
    c.pick.result.now Equal c.loop-i-test.true c.index-named-i.is c.pick.ensures c.in-Equal.ensures ∙ c.loop-i.invariant
