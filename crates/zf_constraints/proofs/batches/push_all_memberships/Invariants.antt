use Rattle.zf_constraints.proofs.Prelude.{◌++◌, ◌≡◌, drop, map, comp_of, conjunct_of, memberships}
use Rattle.zf_constraints.proofs.batches.push_all_memberships.Given as goal

abbrev pub invariant-loop-place : goal.invariant-loop-place
invariant-loop-place l = map conjunct_of l.made ++ memberships l.place (map comp_of (drop l.place l.components)) ≡ map conjunct_of l.initial.made ++ memberships 0 (map comp_of l.components)
