-- What a command takes, as the program lists it. No public clause rests on this file.
use Rattle.std.specs.Prelude.{List, Some}
use Rattle.std.specs.List.{fold}
use Rattle.clap.specs.Words.{App, Rule, new_rule, with_rule}
use Rattle.clap.specs.declared.builder.ArgAction.TheVariants.{Append, SetTrue}
use Rattle.zf_command.specs.declared.command.Parameter.{Parameter}
use Rattle.zf_command.specs.declared.command.Parameter.TheVariants.{Any, Either, Flag, Letter, One, Several, Value}
use Rattle.zf_command.specs.Apps.{flag_rule, option_rule, required_rule}

abbrev pub parameter_rule : Parameter → Rule
parameter_rule (One name help) = required_rule name.now
parameter_rule (Several name help) = record (required_rule name.now) { action = Some Append }
parameter_rule (Any name help) = record (new_rule name.now) { action = Some Append }
parameter_rule (Value name value help) = option_rule name.now
parameter_rule (Flag name help) = flag_rule name.now
parameter_rule (Letter letter name help) = record (new_rule name.now) { short = Some letter; action = Some SetTrue }
parameter_rule (Either letter name help) = record (new_rule name.now) { short = Some letter; long = Some name.now; action = Some SetTrue }

-- the command with these after those that it has
abbrev pub with_parameters : App → List Parameter → App
with_parameters app parameters = fold (λ a p. with_rule a (parameter_rule p)) app parameters
