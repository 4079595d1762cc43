-- The values of an argument, by the rows of the matches.
use Rattle.zf_command.proofs.Prelude.{◌∙◌, raw_values-rows, found_of}
use Rattle.zf_command.proofs.matches.all_in.Goals as goal

pub returns : goal.returns
returns c = c.get_strs.ensures ∙ raw_values-rows (found_of c.args.matches.now) c.args.id.now
