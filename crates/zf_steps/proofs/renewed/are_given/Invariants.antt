use Rattle.zf_steps.proofs.Prelude.{◌≡◌, map, take, is_some}
use Rattle.zf_steps.proofs.renewed.are_given.Given as goal

abbrev pub invariant-loop-value : goal.invariant-loop-value
invariant-loop-value l = l.given.items ≡ map is_some (take l.value-index l.held)
