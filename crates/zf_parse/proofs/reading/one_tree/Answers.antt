use Rattle.zf_parse.proofs.Answers.{only_one}
use Rattle.zf_parse.proofs.reading.one_tree.Goals as goal

pub returns : goal.returns
returns c = only_one
