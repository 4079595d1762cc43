use Rattle.zf_families.proofs.Prelude.{◌++◌, ◌≡◌, take, pairs}
use Rattle.zf_families.proofs.rows.append_pairs.Given as goal

abbrev pub invariant-loop-y : goal.invariant-loop-y
invariant-loop-y l = l.all.items ≡ l.initial.all.items ++ pairs (take l.y-index l.b) l.x
