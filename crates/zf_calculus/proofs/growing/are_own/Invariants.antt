use Rattle.zf_calculus.proofs.Renumbering.{KeepsAll}
use Rattle.zf_calculus.proofs.growing.are_own.Given as goal

abbrev pub invariant-loop-place : goal.invariant-loop-place
invariant-loop-place l = KeepsAll l.places l.place
