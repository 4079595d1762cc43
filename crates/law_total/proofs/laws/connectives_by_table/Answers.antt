use Rattle.law_total.proofs.Tables.{by_table}
use Rattle.law_total.proofs.laws.connectives_by_table.Goals as goal

pub returns : goal.returns
returns c = by_table
