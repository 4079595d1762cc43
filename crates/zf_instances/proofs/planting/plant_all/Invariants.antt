use Rattle.zf_instances.proofs.Prelude.{map, take, trees_of, resolved_of, ArePlanted}
use Rattle.zf_instances.proofs.planting.plant_all.Given as goal

-- the conjuncts so far are planted
abbrev pub invariant-loop-conjunct : goal.invariant-loop-conjunct
invariant-loop-conjunct l = ArePlanted (map resolved_of (take l.conjunct-index l.conjuncts)) l.leaves.items (trees_of l.forest)
