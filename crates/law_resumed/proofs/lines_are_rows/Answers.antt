use Rattle.law_resumed.proofs.Rows.{lines_are_rows}
use Rattle.law_resumed.proofs.lines_are_rows.Goals as goal

pub returns : goal.returns
returns c = lines_are_rows
