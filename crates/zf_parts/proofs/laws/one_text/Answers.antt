use Rattle.zf_parts.proofs.Telling.{one_text_of_parts, some_text_of_parts}
use Rattle.zf_parts.proofs.laws.one_text.Goals as goal

pub returns-clause-one : goal.returns-clause-one
returns-clause-one c = one_text_of_parts

pub returns-clause-some : goal.returns-clause-some
returns-clause-some c = some_text_of_parts
