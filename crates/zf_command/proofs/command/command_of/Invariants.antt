-- The command so far has the parameters so far.
use Rattle.zf_command.proofs.Prelude.{take, IsCommand, new_app, with_parameters}
use Rattle.zf_command.proofs.command.command_of.Given as goal

abbrev pub invariant-loop-parameter : goal.invariant-loop-parameter
invariant-loop-parameter l = IsCommand l.command (with_parameters (new_app l.name) (take l.parameter-index l.parameters))
