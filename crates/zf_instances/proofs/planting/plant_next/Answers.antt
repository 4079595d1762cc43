use Rattle.zf_instances.proofs.Prelude.{on_ok_weaker, resolved_of}
use Rattle.zf_instances.proofs.Planted.{next_planted}
use Rattle.zf_instances.proofs.planting.plant_next.Goals as goal

pub returns : goal.returns
returns c =
    let old = c.args.leaves.now.items in
    let part = c.plant.new in
    on_ok_weaker c.take.result
    (next_planted old part.leaves.items c.args.forest.now part.forest c.take.new.self (resolved_of c.args.term.now) c.in_ok-place.place c.in_ok-place.ensures) c.take.ensures.ok
