use Rattle.law_sound.proofs.Globals.{outcomes_typed}
use Rattle.law_sound.proofs.laws.outcomes_typed.Goals as goal

pub returns : goal.returns
returns c = outcomes_typed
