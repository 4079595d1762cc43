use Rattle.zf_families.proofs.Prelude.{◌≡◌, take, singles}
use Rattle.zf_families.proofs.rows.single_layers.Given as goal

abbrev pub invariant-loop-x : goal.invariant-loop-x
invariant-loop-x l = l.layers.items ≡ singles (take l.x-index l.a)
