use Rattle.zf_families.proofs.Prelude.{◌≡◌, map, take, members}
use Rattle.zf_families.proofs.cross.member_layers.Given as goal

abbrev pub invariant-loop-set : goal.invariant-loop-set
invariant-loop-set l = l.layers.items ≡ map members (take l.set-index l.sets)
