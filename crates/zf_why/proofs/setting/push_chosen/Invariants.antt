use Rattle.zf_why.proofs.Prelude.{◌++◌, ◌≡◌, drop, chosen_of}
use Rattle.zf_why.proofs.setting.push_chosen.Given as goal

abbrev pub invariant-loop-place : goal.invariant-loop-place
invariant-loop-place l = l.initial.part ++ chosen_of l.conjuncts l.chosen ≡ l.part ++ chosen_of (drop l.place l.conjuncts) (drop l.place l.chosen)
