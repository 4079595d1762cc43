use Rattle.zf_parts.proofs.Growing.{has_each_part, one_list_of_parts, some_list_of_parts}
use Rattle.zf_parts.proofs.laws.one_list.Goals as goal

pub returns-clause-one : goal.returns-clause-one
returns-clause-one c = one_list_of_parts

pub returns-clause-some : goal.returns-clause-some
returns-clause-some c = some_list_of_parts

pub returns-clause-each : goal.returns-clause-each
returns-clause-each c = has_each_part
