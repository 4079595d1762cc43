use Rattle.zf_calculus.proofs.Prelude.{◌↔◌, drop, map, comp_of, AreOnce}
use Rattle.zf_calculus.proofs.components.are_apart.Given as goal

abbrev pub invariant-loop-place : goal.invariant-loop-place
invariant-loop-place l = AreOnce (map comp_of (drop l.place l.components)) ↔ AreOnce (map comp_of l.components)
