-- What a parse reads of a command with one more argument, or with a text for help.
use Rattle.zf_command.proofs.Prelude.{◌||◌, ◌+◌, ◌<◌, ◌∙◌, ◌≡◌, ap, ap₂, Bor, get_or, length, List, Option, subst, sym, take, ℕ, AddsArg, AddsSubcommand, App, Rule, with_rule, with_subcommand, IsArg, IsCommand, parameter_rule, with_parameters}
use Rattle.std.proofs.lemmas.List.Sums.{fold_more}
use Rattle.clap.specs.declared.builder.Arg.{Arg}
use Rattle.clap.specs.declared.builder.command.Command.{Command}
use Rattle.clap.specs.declared.builder.command.Command.TheViews.{out-Command}
use Rattle.zf_command.specs.declared.command.Parameter.{Parameter}

pub with_one_more : (old new : Command) (a : Arg) (app : App) (r : Rule) → IsCommand old app → IsArg a r → AddsArg old a new → IsCommand new (with_rule app r)
with_one_more old new a app r is_old is_arg adds =
    (adds.shape is_arg.1 ∙ ap₂ with_rule is_old.0 is_arg.0, adds.globals ∙ ap₂ (λ x y. x || y) is_old.1 is_arg.1)

-- the next of the parameters
pub with_next : (old new : Command) (a : Arg) (app : App) (ps : List Parameter) (i : ℕ) (d : Parameter) → i < length ps → IsCommand old (with_parameters app (take i ps))
    → IsArg a (parameter_rule (get_or ps i d)) → AddsArg old a new → IsCommand new (with_parameters app (take (i + 1) ps))
with_next old new a app ps i d below is_old is_arg adds =
    subst (IsCommand new) (sym (fold_more (λ b p. with_rule b (parameter_rule p)) app ps i d below))
    (with_one_more old new a (with_parameters app (take i ps)) (parameter_rule (get_or ps i d)) is_old is_arg adds)

pub with_one_sub : (old sub new : Command) (app of_sub : App) → IsCommand old app → IsCommand sub of_sub → AddsSubcommand old sub new → IsCommand new (with_subcommand app of_sub.top)
with_one_sub old sub new app of_sub is_old is_sub adds =
    (adds.shape is_sub.1 ∙ ap₂ with_subcommand is_old.0 (ap (λ a. a.top) is_sub.0), adds.globals ∙ ap₂ (λ x y. x || y) is_old.1 is_sub.1)

-- a text for help changes nothing that a parse reads
pub with_about : (old new : Command) (text : Option (Bor (List ℕ))) (app : App) → IsCommand old app → out-Command new ≡ record (out-Command old) { about = text } → IsCommand new app
with_about old new text app is_old same = (rw same is_old.0, rw same is_old.1)
