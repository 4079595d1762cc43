use Rattle.law_answered.proofs.RunsFollow.{runs_make_one}
use Rattle.law_answered.proofs.runs_make_one.Goals as goal

pub returns : goal.returns
returns c = runs_make_one c.lines_are_rows.ensures
