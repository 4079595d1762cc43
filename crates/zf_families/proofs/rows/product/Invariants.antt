use Rattle.zf_families.proofs.Prelude.{◌≡◌, take, flat_map, pairs}
use Rattle.zf_families.proofs.rows.product.Given as goal

abbrev pub invariant-loop-x : goal.invariant-loop-x
invariant-loop-x l = l.all.items ≡ flat_map (pairs l.b) (take l.x-index l.a)
