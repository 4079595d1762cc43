use Rattle.zf_meaning.proofs.Prelude.{◌≡◌, map, take, members, seen, spread, IsAscending, AllByRecursion}
use Rattle.zf_meaning.proofs.evaluate.ranges.lists_of.Given as goal

abbrev pub invariant-loop-spread : goal.invariant-loop-spread
invariant-loop-spread l = record {
  lists : seen l.lists.items ≡ map members (spread (take l.spread-index l.sets));
  ascending : AllByRecursion (λ s. IsAscending (members s)) (spread (take l.spread-index l.sets));
}
