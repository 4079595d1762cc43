use Rattle.law_sound.proofs.ExactCarriers.{carriers_are_exact, carriers_are_outcomes}
use Rattle.law_sound.proofs.laws.carriers_exact.Goals as goal

pub returns : goal.returns
returns c = record { members = carriers_are_exact; outcomes = carriers_are_outcomes }
