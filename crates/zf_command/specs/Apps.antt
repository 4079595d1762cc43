-- The command line, as the literals that `clap` reads words by: `--version`, `check [-t] [--json] [--details] FILE`,
-- `show [--after TEXT] [--with TEXT] [--only TEXT] [--numbers N] [--size N] [--limit N] [--tests] [--json] [--details] FILE SCHEMA [NAME=SIZE]...`
-- `why [--with TEXT] [--numbers N] [--size N] [--json] [--details] FILE SCHEMA [NAME=SIZE]...`
-- and `reach [--find SCHEMA] [--dot] [--limit N] [--numbers N] [--size N] [--json] [--details] FILE STATE INIT OPERATION... [NAME=SIZE]...`.
use Rattle.std.specs.Prelude.{◌≡◌, ◌++◌, ◌∷◌, [], List, Some, codes, true, false}
use Rattle.std.specs.List.{fold}
use Rattle.clap.specs.Words.{App, Rule, Text, app_of, new_app, new_rule, rule_of, with_rule, with_subcommand}
use Rattle.clap.specs.declared.builder.ArgAction.TheVariants.{Append, SetTrue}
use Rattle.clap.specs.declared.builder.Arg.{Arg}
use Rattle.clap.specs.declared.builder.command.Command.{Command}
use Rattle.clap.specs.declared.builder.command.Command.TheViews.{out-Command}

-- an argument that must be given
abbrev pub required_rule : Text → Rule
required_rule name = record (new_rule name) { required = true }

-- `[NAME=SIZE]...`
abbrev pub sizes_rule : Rule
sizes_rule = record (new_rule (codes "NAME=SIZE")) { action = Some Append }

-- `OPERATION...`, with size words among them
abbrev pub operations_rule : Rule
operations_rule = record (new_rule (codes "OPERATION")) { required = true; action = Some Append }

-- `[-t]`; the letter is the character 116
abbrev pub types_rule : Rule
types_rule = record (new_rule (codes "types")) { short = Some 116; action = Some SetTrue }

-- `[-d]` or `[--details]`; the letter is the character 100
abbrev pub details_rule : Rule
details_rule = record (new_rule (codes "details")) { short = Some 100; long = Some (codes "details"); action = Some SetTrue }

-- `[--NAME VALUE]`, with one name for its value in the text of help
abbrev pub option_rule : Text → Rule
option_rule name = record (new_rule name) { long = Some name; value_names = 1 }

-- `[--NAME]`
abbrev pub flag_rule : Text → Rule
flag_rule name = record (new_rule name) { long = Some name; action = Some SetTrue }

-- the command with these rules after those that it has
abbrev with_rules : App → List Rule → App
with_rules app rules = fold with_rule app rules

-- `[--json] [--details]`
abbrev format_rules : List Rule
format_rules = flag_rule (codes "json") ∷ details_rule ∷ []

-- `[--numbers N] [--size N]`
abbrev size_rules : List Rule
size_rules = option_rule (codes "numbers") ∷ option_rule (codes "size") ∷ []

-- `FILE SCHEMA [NAME=SIZE]...`
abbrev schema_rules : List Rule
schema_rules = required_rule (codes "FILE") ∷ required_rule (codes "SCHEMA") ∷ sizes_rule ∷ []

-- `check [-t] [--json] [--details] FILE`
abbrev pub check_app : App
check_app = with_rules (new_app (codes "check")) (types_rule ∷ (format_rules ++ required_rule (codes "FILE") ∷ []))

-- `show [--after TEXT] [--with TEXT] [--only TEXT] [--numbers N] [--size N] [--limit N] [--tests] [--json] [--details] FILE SCHEMA [NAME=SIZE]...`
abbrev pub show_app : App
show_app =
    let parts = option_rule (codes "after") ∷ option_rule (codes "with") ∷ option_rule (codes "only") ∷ [] in
    let counts = option_rule (codes "limit") ∷ flag_rule (codes "tests") ∷ [] in
    with_rules (new_app (codes "show")) (parts ++ size_rules ++ counts ++ format_rules ++ schema_rules)

-- `why [--with TEXT] [--numbers N] [--size N] [--json] [--details] FILE SCHEMA [NAME=SIZE]...`
abbrev pub why_app : App
why_app = with_rules (new_app (codes "why")) (option_rule (codes "with") ∷ (size_rules ++ format_rules ++ schema_rules))

-- `reach [--find SCHEMA] [--dot] [--limit N] [--numbers N] [--size N] [--json] [--details] FILE STATE INIT OPERATION... [NAME=SIZE]...`
abbrev pub reach_app : App
reach_app =
    let asked = option_rule (codes "find") ∷ flag_rule (codes "dot") ∷ option_rule (codes "limit") ∷ [] in
    let machine = required_rule (codes "FILE") ∷ required_rule (codes "STATE") ∷ required_rule (codes "INIT") ∷ operations_rule ∷ [] in
    with_rules (new_app (codes "reach")) (asked ++ size_rules ++ format_rules ++ machine)

-- `zf [--version]`, which needs a subcommand, and whose words do not begin with its own name
abbrev pub zf_top : App
zf_top = record (new_app (codes "zf")) { top = record (new_app (codes "zf")).top { has_version = true; no_binary_name = true; subcommand_required = true } }

abbrev pub zf_app : App
zf_app =
    let first = with_subcommand (with_subcommand zf_top check_app.top) show_app.top in
    with_subcommand (with_subcommand first why_app.top) reach_app.top

-- the argument is the rule, and is for its own command alone
abbrev pub IsArg : Arg → Rule → Type 0
IsArg a r = (rule_of a ≡ r) × (a.global ≡ false)

-- the command is the literal, and has no argument for its subcommands
abbrev pub IsCommand : Command → App → Type 0
IsCommand c a = (app_of c ≡ a) × ((out-Command c).has_globals ≡ false)

-- the same of a command that needs a subcommand
abbrev pub IsTop : Command → App → Type 0
IsTop c a = (app_of c ≡ a) × ((out-Command c).has_globals ≡ false) × ((out-Command c).subcommand_required ≡ true)
