use Rattle.zf_families.proofs.Prelude.{◌↔◌, drop, members, IsGraph}
use Rattle.zf_families.proofs.members.is_graph.Given as goal

abbrev pub invariant-loop-place : goal.invariant-loop-place
invariant-loop-place l = IsGraph (members l.b) l.a l.r ↔ IsGraph (members l.b) (drop l.place l.a) (drop l.place l.r)
