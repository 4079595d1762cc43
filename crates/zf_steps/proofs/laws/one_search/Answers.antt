use Rattle.zf_steps.proofs.Sure.{is_decisive, is_searched_once}
use Rattle.zf_steps.proofs.laws.one_search.Goals as goal

pub returns-clause-decisive : goal.returns-clause-decisive
returns-clause-decisive c = is_decisive

pub returns-clause-one : goal.returns-clause-one
returns-clause-one c = is_searched_once
