-- The first value of an argument, by the rows of the matches.
use Rattle.zf_command.proofs.Prelude.{◌∙◌, first_value-rows, found_of}
use Rattle.zf_command.proofs.matches.first_in.Goals as goal

pub returns : goal.returns
returns c = c.get_str.ensures ∙ first_value-rows (found_of c.args.matches.now) c.args.id.now
