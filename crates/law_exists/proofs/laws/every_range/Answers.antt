use Rattle.law_exists.proofs.Ranges.{some_ranges}
use Rattle.law_exists.proofs.laws.every_range.Goals as goal

pub returns : goal.returns
returns c = some_ranges
