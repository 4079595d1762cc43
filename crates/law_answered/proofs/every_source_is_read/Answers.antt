use Rattle.law_answered.proofs.EverySource.{every_source}
use Rattle.law_answered.proofs.every_source_is_read.Goals as goal

pub returns : goal.returns
returns c = every_source c.one_cut.ensures.some
