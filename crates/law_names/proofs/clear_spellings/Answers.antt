use Rattle.law_names.proofs.Clear.{globals_clear}
use Rattle.law_names.proofs.clear_spellings.Goals as goal

pub returns : goal.returns
returns c = globals_clear
