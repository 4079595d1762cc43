use Rattle.law_answered.proofs.PartsShown.{each_part_is_shown}
use Rattle.law_answered.proofs.each_part_is_shown.Goals as goal

pub returns : goal.returns
returns c = each_part_is_shown
