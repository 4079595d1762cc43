use Rattle.zf_enum.proofs.EventLaws.{one_ranges, one_events}
use Rattle.zf_enum.proofs.laws.one_list.Goals as goal

pub returns-clause-ranges : goal.returns-clause-ranges
returns-clause-ranges c = one_ranges

pub returns-clause-events : goal.returns-clause-events
returns-clause-events c = one_events
