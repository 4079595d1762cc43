use Rattle.zf_machines.proofs.Sole.{one_machine}
use Rattle.law_answered.proofs.Reached.{reachable_are_met, what_is_reached_is_told}
use Rattle.law_answered.proofs.reachable_is_told.Goals as goal

pub returns : goal.returns
returns c = record { told = what_is_reached_is_told; machine = one_machine; reachable = reachable_are_met }
