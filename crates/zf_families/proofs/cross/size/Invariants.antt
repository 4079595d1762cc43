use Rattle.zf_families.proofs.Prelude.{◌+◌, ◌≡◌, map, min, take, IsAscending, members, SET_MAX, sizes, AllByRecursion}
use Rattle.zf_families.proofs.cross.size.Given as goal

abbrev pub invariant-loop-set : goal.invariant-loop-set
invariant-loop-set l = (l.size ≡ min (sizes (λ n. n) (map members (take l.set-index l.sets))) (SET_MAX + 1)) × AllByRecursion (λ s. IsAscending (members s)) (take l.set-index l.sets)
