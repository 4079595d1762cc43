use Rattle.zf_why.proofs.Prelude.{◌++◌, ◌≡◌, drop, chosen_of}
use Rattle.zf_why.proofs.Gathered.{parts_of}
use Rattle.zf_why.proofs.telling.chosen_parts.Given as goal

abbrev pub invariant-loop-place : goal.invariant-loop-place
invariant-loop-place l = chosen_of (parts_of l.conjuncts) l.chosen ≡ l.parts.items ++ chosen_of (drop l.place (parts_of l.conjuncts)) (drop l.place l.chosen)
