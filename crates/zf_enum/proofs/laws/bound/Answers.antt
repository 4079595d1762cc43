use Rattle.zf_enum.proofs.EventLaws.{tests_are_bound}
use Rattle.zf_enum.proofs.laws.bound.Goals as goal

pub returns : goal.returns
returns c = tests_are_bound
