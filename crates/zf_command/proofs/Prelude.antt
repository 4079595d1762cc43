-- What the proofs of this crate take from elsewhere, passed on from one place.
pub use Rattle.std.proofs.Common.{◌++◌, ◌+◌, ◌-◌, ◌<◌, ◌^◌, ◌||◌, ◌↔◌, ◌∙◌, ◌∷◌, ◌≡◌, ◌≢◌, [], ap, append_assoc, ap₂, arith, Bor, Box, codes, Err, get_or, IfOk, inl, inr, length, List, lit<, map, MatchOption, None, Ok, Option, option_map, refl, Result, Some, subst, suc, sym, take, true, zero, ℕ, Bool, false, append-nil, cond}
pub use Rattle.std.proofs.lemmas.Bool.Decides.{nat_tests}
pub use Rattle.std.proofs.lemmas.Result.{err_from_is_err_and}
pub use Rattle.std.specs.List.{AllZip, Contains, filter}
pub use Rattle.std.specs.Str.Parse.{AllDigits, digits_value, IsNumeral, ParsesUnsigned}
pub use Rattle.clap.proofs.WalkLemmas.{first_value-rows, raw_values-rows}
pub use Rattle.clap.specs.Words.{AddsArg, AddsSubcommand, App, fault_of, first_of, found_of, HasKind, HasMatchesOf, is_simple, is_simple_and_free, IsAmong, kind_of, Row, Rule, subcommand_name_of, subcommand_of, subcommand_rows, subcommand_rows_of, Text, with_rule, with_subcommand, new_app}
pub use Rattle.clap.specs.declared.error.kind.ErrorKind.TheVariants.{DisplayHelp, DisplayVersion, OutOfMemory}
pub use Rattle.zf_command.specs.{AreMatches, Asks, HasBadLimit, HasBadNumber, HasBadNumbers, HasBadSetting, HasBadSize, IsArg, IsAsked, IsBadSize, IsCommand, IsExploration, IsJob, IsLimit, IsNumberOf, IsRefused, IsSetting, IsShown, other_words, ReadsNumber, ReadsSize, Refuses, RefusesExploration, RefusesShown, size_words, values_of, words_after, zf_app, parameter_rule, with_parameters, is_size_word}
pub use Rattle.zf_command.specs.declared.job.Asked.TheVariants.{About, Work}
pub use Rattle.zf_command.specs.declared.job.Size.{Size}
pub use Rattle.zf_command.specs.declared.job.UsageFault.{UsageFault}
pub use Rattle.zf_command.specs.declared.job.UsageFault.TheVariants.{BadWords}
pub use Rattle.std.proofs.lemmas.List.{get_or-map, get_or_default, length-map, map_more, take_all, map-append}
pub use Rattle.std.specs.Prelude.{not}
