-- What the matches and the refusals of `clap` say of the words, by the literal of the command line.
use Rattle.zf_command.proofs.Prelude.{◌∙◌, ◌≡◌, [], ap, ap₂, Box, Err, IfOk, inl, inr, List, None, Ok, Option, option_map, refl, Result, Some, subst, sym, true, App, fault_of, HasKind, HasMatchesOf, is_simple, is_simple_and_free, IsAmong, kind_of, Row, subcommand_name_of, subcommand_of, subcommand_rows, subcommand_rows_of, Text, OutOfMemory, zf_app, AreMatches, Asks, IsAsked, About, Work, UsageFault}
use Rattle.clap.specs.declared.error.Error.{Error}
use Rattle.clap.specs.declared.error.kind.ErrorKind.{ErrorKind}
use Rattle.clap.proofs.OnLiterals.{clap_on_literals}
use Rattle.zf_command.specs.declared.job.Asked.{Asked}
use Rattle.clap.specs.declared.parser.matches.ArgMatches.{ArgMatches}
use Rattle.clap.specs.declared.parser.matches.ArgMatches.TheViews.{out-ArgMatches, out-SubCommand}
use Rattle.clap.specs.declared.parser.matches.SubCommand.{SubCommand}
use Rattle.std.specs.Box.{box_value}

named : (found : Option (Text × List Row)) (name : Text) (rows : List Row) → Some name ≡ option_map (λ p. p.0) found → Some rows ≡ option_map (λ p. p.1) found → found ≡ Some (name, rows)
named None name rows e d = cc
named (Some p) name rows e d =
    let named_so : p.0 ≡ name = cc in
    let found_so : p.1 ≡ rows = cc in
    ap₂ (λ (n : Text) (r : List Row). Some (n, r)) named_so found_so

-- the name of a subcommand is that which stands beside its rows
named_as : {Z : Type 0} (found : Option (Box SubCommand Z)) → option_map (λ b. (out-SubCommand (box_value b)).name.now) found ≡ option_map (λ p. p.0) (subcommand_rows found)
named_as None = refl
named_as (Some b) = refl

-- the command is one whose matches and refusals are exact
pub zf_is_free : is_simple_and_free zf_app ≡ true
unfolding clap_on_literals
zf_is_free = refl

pub zf_is_simple : is_simple zf_app ≡ true
unfolding clap_on_literals
zf_is_simple = refl

pub among_kinds : (app : App) (words : List Text) (e : Error) (k : ErrorKind) → app ≡ zf_app → kind_of e ≡ k → (k ≡ OutOfMemory → ⊥)
    → (is_simple_and_free app ≡ true → HasKind (fault_of app words) e) → IsAmong k (fault_of zf_app words)
among_kinds app words e k is kind other kinds =
    let found : HasKind (fault_of app words) e = kinds (ap is_simple_and_free is ∙ zf_is_free) in
    let here : HasKind (fault_of zf_app words) e = subst (λ (a : App). HasKind (fault_of a words) e) is found in
    elim here [
      | inl h ↦ absurd (other (sym kind ∙ h))
      | inr h ↦ subst (λ (x : ErrorKind). IsAmong x (fault_of zf_app words)) kind h
    ]

-- the matches of words that were taken
pub are_matches : (app : App) (words : List Text) (m : ArgMatches) (name : Text) (rows : List Row) → app ≡ zf_app → HasMatchesOf app words m
    → (is_simple_and_free app ≡ true → fault_of app words ≡ []) → Some name ≡ subcommand_name_of m → Some rows ≡ option_map (λ p. p.1) (subcommand_rows_of m)
    → AreMatches words name rows
are_matches app words m name rows is has taken called found =
    let here : subcommand_rows_of m ≡ subcommand_of zf_app words = subst (λ (a : App). subcommand_rows_of m ≡ subcommand_of a words) is (has (ap is_simple is ∙ zf_is_simple)).1 in (
      subst (λ (a : App). fault_of a words ≡ []) is (taken (ap is_simple_and_free is ∙ zf_is_free)),
      named (subcommand_of zf_app words) name rows (called ∙ named_as (out-ArgMatches m).subcommand ∙ ap (option_map (λ p. p.0)) here) (found ∙ ap (option_map (λ p. p.1)) here),
    )

pub answered : (words : List Text) (name : Text) (rows : List Row) (r : Result Asked UsageFault) → AreMatches words name rows → IfOk r (Asks name rows) → IfOk r (IsAsked words)
answered words name rows (Ok (Work file job)) are asks = (name, rows, are, asks)
answered words name rows (Ok (About text)) are asks = absurd asks
answered words name rows (Err e) are asks = tt
