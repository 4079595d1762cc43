use Rattle.law_names.proofs.Clear.{components_clear}
use Rattle.law_names.proofs.clear_components.Goals as goal

pub returns : goal.returns
returns c = components_clear
