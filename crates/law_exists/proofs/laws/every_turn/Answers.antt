use Rattle.law_exists.proofs.Turns.{some_turns}
use Rattle.law_exists.proofs.laws.every_turn.Goals as goal

pub returns : goal.returns
returns c = some_turns
