use Rattle.zf_cores.proofs.Prelude.{◌≡◌, true, replicate}
use Rattle.zf_cores.proofs.trimming.all_chosen.Given as goal

abbrev pub invariant-loop : goal.invariant-loop
invariant-loop l = l.chosen.items ≡ replicate l.counter true
