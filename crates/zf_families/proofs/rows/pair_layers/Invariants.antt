use Rattle.zf_families.proofs.Prelude.{◌≡◌, map, take, pairs}
use Rattle.zf_families.proofs.rows.pair_layers.Given as goal

abbrev pub invariant-loop-x : goal.invariant-loop-x
invariant-loop-x l = l.layers.items ≡ map (pairs l.b) (take l.x-index l.a)
