-- What a job is read from: the matches that `clap` makes of the words.
use Rattle.std.specs.Prelude.{◌≡◌, ◌≢◌, ◌⊎◌, ◌++◌, ◌-◌, ◌^◌, ◌≤◌, ◌==◌, ◌&&◌, ℕ, Bool, true, false, not, if◌then◌else◌, List, [], Option, Some, None, IsSomeAnd, is_some, codes, min, unwrap_or}
use Rattle.std.specs.Option.{option_map_or}
use Rattle.std.specs.Str.{bytes_eq}
use Rattle.std.specs.List.{All, AllZip, Contains, filter, list_any}
use Rattle.std.specs.Str.Parse.{IsNumeral, digits_value}
use Rattle.clap.specs.Words.{IsAmong, Row, Text, all_of, fault_of, first_of, subcommand_of}
use Rattle.clap.specs.declared.error.kind.ErrorKind.{ErrorKind}
use Rattle.clap.specs.declared.error.kind.ErrorKind.TheVariants.{DisplayHelp, DisplayVersion, OutOfMemory}
use Rattle.zf_command.specs.declared.job.Asked.{Asked}
use Rattle.zf_command.specs.declared.job.Asked.TheVariants.{About, Work}
use Rattle.zf_command.specs.declared.job.Job.{Job}
use Rattle.zf_command.specs.declared.job.Job.TheVariants.{Check, Reach, Show, Why}
use Rattle.zf_command.specs.declared.job.Exploration.{Exploration}
use Rattle.zf_command.specs.declared.job.Request.{Request}
use Rattle.zf_command.specs.declared.job.Setting.{Setting}
use Rattle.zf_command.specs.declared.job.Size.{Size}
use Rattle.zf_command.specs.declared.limit.TheConstants.{LIMIT_MAX, STATES_MAX}
use Rattle.zf_format.specs.declared.format.Format.{Format}
use Rattle.zf_format.specs.declared.format.Format.TheVariants.{Lines, Objects}
use Rattle.zf_command.specs.Apps.{zf_app}
use Rattle.zf_command.specs.Requests.{IsBare}

-- the value of an argument, and the values of one that may be given more than once
abbrev pub value_of : Text → List Row → Text
value_of id rows = unwrap_or (first_of id rows) []

abbrev pub values_of : Text → List Row → List Text
values_of id rows = unwrap_or (all_of id rows) []

-- whether an argument that is a flag was given
abbrev pub is_flagged : Text → List Row → Bool
is_flagged id rows = option_map_or (bytes_eq (codes "true")) (first_of id rows) false

-- the digits spell n; a number past 64 bits is kept as the greatest
abbrev pub ReadsNumber : Text → ℕ → Type 0
ReadsNumber digits n = IsNumeral 10 digits × (n ≡ min (digits_value 10 digits) (2 ^ 64 - 1))

-- the word is NAME=SIZE, parted at its first `=`, which is the byte 61
pub record ReadsSize (word : Text) (size : Size) : Type 0 where
  pub digits : Text
  pub parted : word ≡ size.name ++ codes "=" ++ digits
  pub first : All (λ b. b ≢ 61) size.name
  pub named : size.name ≢ []
  pub counted : ReadsNumber digits size.count

-- the word has another form than NAME=SIZE
abbrev pub IsBadSize : Text → Type 0
IsBadSize word = (size : Size) → ReadsSize word size → ⊥

abbrev pub HasBadSize : List Text → Type 0
HasBadSize words = (word : Text) × Contains words word × IsBadSize word

-- the number of the option's value, where it was given
abbrev pub IsNumberOf : Option Text → Option ℕ → Type 0
IsNumberOf None number = number ≡ None
IsNumberOf (Some digits) number = IsSomeAnd number (ReadsNumber digits)

-- it was given, and is no numeral
abbrev pub HasBadNumber : Option Text → Type 0
HasBadNumber None = ⊥
HasBadNumber (Some digits) = ¬ (IsNumeral 10 digits)

-- the digits spell a limit, which is at most so great
abbrev pub ReadsLimit : (most : ℕ) → Text → ℕ → Type 0
ReadsLimit most digits n = ReadsNumber digits n × (1 ≤ n) × (n ≤ most)

abbrev pub IsBadLimit : (most : ℕ) → Text → Type 0
IsBadLimit most digits = (n : ℕ) → ReadsLimit most digits n → ⊥

-- the limit of the option's value, where it was given
abbrev pub IsLimit : (most : ℕ) → Option Text → Option ℕ → Type 0
IsLimit most None limit = limit ≡ None
IsLimit most (Some digits) limit = IsSomeAnd limit (ReadsLimit most digits)

abbrev pub HasBadLimit : (most : ℕ) → Option Text → Type 0
HasBadLimit most None = ⊥
HasBadLimit most (Some digits) = IsBadLimit most digits

-- ---- the words after the names of STATE and INIT

-- a word with a `=`, which is the byte 61, is a size word
abbrev pub is_size_word : Text → Bool
is_size_word word = list_any (λ b. b == 61) word

abbrev pub size_words : List Text → List Text
size_words words = filter is_size_word words

-- the others name operations
abbrev pub other_words : List Text → List Text
other_words words = filter (λ word. not (is_size_word word)) words

abbrev pub words_after : List Row → List Text
words_after rows = values_of (codes "OPERATION") rows

-- ---- how an answer is written

-- an object in each line, if that is asked for
abbrev pub format_in : List Row → Format
format_in rows = if is_flagged (codes "json") rows then Objects else Lines

-- what excludes one another: objects and what is defined, the number of tests and some of the components, objects and a graph
abbrev pub lists_objects : List Row → Bool
lists_objects rows = is_flagged (codes "types") rows && is_flagged (codes "json") rows

abbrev pub counts_parts : List Row → Bool
counts_parts rows = is_flagged (codes "tests") rows && is_some (first_of (codes "only") rows)

abbrev pub draws_objects : List Row → Bool
draws_objects rows = is_flagged (codes "dot") rows && is_flagged (codes "json") rows

-- ---- jobs

-- how large the given sets and the sets of numbers are, where these are the size words
abbrev pub IsSetting : (words : List Text) → List Row → Setting → Type 0
IsSetting words rows s =
    AllZip ReadsSize words s.sizes × IsNumberOf (first_of (codes "numbers") rows) s.numbers × IsNumberOf (first_of (codes "size") rows) s.size

-- what `show` and `why` both are asked for
abbrev pub IsRequest : List Row → Request → Type 0
IsRequest rows r =
    (r.name ≡ value_of (codes "SCHEMA") rows) × IsSetting (values_of (codes "NAME=SIZE") rows) rows r.setting
    × (r.held ≡ first_of (codes "with") rows) × (r.details ≡ is_flagged (codes "details") rows) × (r.format ≡ format_in rows)

-- what `show` alone is asked for: where it begins, of which components it writes how many lines, and whether it counts tests
abbrev pub IsShown : List Row → Request → Type 0
IsShown rows r =
    (r.after ≡ first_of (codes "after") rows) × IsLimit LIMIT_MAX (first_of (codes "limit") rows) r.limit × (r.tests ≡ is_flagged (codes "tests") rows)
    × (r.only ≡ first_of (codes "only") rows) × (counts_parts rows ≡ false)

-- the names of the schemas that `reach` is asked for, with at least one operation; the one that is sought is the value of `--find`
abbrev pub AreNames : List Row → Exploration → Type 0
AreNames rows x =
    (x.state ≡ value_of (codes "STATE") rows) × (x.initial ≡ value_of (codes "INIT") rows)
    × (x.operations ≡ other_words (words_after rows)) × (x.operations ≢ []) × (x.sought ≡ first_of (codes "find") rows)

-- what `reach` is asked for
abbrev pub IsExploration : List Row → Exploration → Type 0
IsExploration rows x =
    AreNames rows x × IsSetting (size_words (words_after rows)) rows x.setting
    × IsLimit STATES_MAX (first_of (codes "limit") rows) x.limit × (x.graph ≡ is_flagged (codes "dot") rows)
    × (x.details ≡ is_flagged (codes "details") rows) × (x.format ≡ format_in rows) × (draws_objects rows ≡ false)

-- what `check` is asked for
abbrev pub IsChecking : List Row → (types details : Bool) → Format → Type 0
IsChecking rows types details format =
    (types ≡ is_flagged (codes "types") rows) × (details ≡ is_flagged (codes "details") rows) × (format ≡ format_in rows) × (lists_objects rows ≡ false)

-- the job is `check`, `why` or `reach` where the subcommand has this name, else `show`, read from the matches of its arguments
abbrev pub IsJob : Text → List Row → Job → Type 0
IsJob name rows (Check types details format) = (name ≡ codes "check") × IsChecking rows types details format
IsJob name rows (Show r) = (name ≢ codes "check") × (name ≢ codes "reach") × (name ≢ codes "why") × IsRequest rows r × IsShown rows r
IsJob name rows (Why r) = (name ≡ codes "why") × IsRequest rows r × IsBare r
IsJob name rows (Reach x) = (name ≡ codes "reach") × IsExploration rows x

-- the matches of the subcommand of this name ask for the work
abbrev pub Asks : Text → List Row → Asked → Type 0
Asks name rows (Work file job) = (file ≡ value_of (codes "FILE") rows) × IsJob name rows job
Asks name rows (About text) = ⊥

-- among the matches the greatest number or the size is no numeral
abbrev pub HasBadNumbers : List Row → Type 0
HasBadNumbers rows = HasBadNumber (first_of (codes "numbers") rows) ⊎ HasBadNumber (first_of (codes "size") rows)

-- one of the size words has another form, or one of the two numbers has
abbrev pub HasBadSetting : (words : List Text) → List Row → Type 0
HasBadSetting words rows = HasBadSize words ⊎ HasBadNumbers rows

-- the limit of `show` has another form, or it is asked for what excludes one another
abbrev pub RefusesShown : List Row → Type 0
RefusesShown rows = HasBadLimit LIMIT_MAX (first_of (codes "limit") rows) ⊎ (counts_parts rows ≡ true)

-- among the matches of `show` or `why` a size word or a number has another form, or what is asked of `show` alone is refused
abbrev pub RefusesRequest : Text → List Row → Type 0
RefusesRequest name rows = HasBadSetting (values_of (codes "NAME=SIZE") rows) rows ⊎ ((name ≢ codes "why") × RefusesShown rows)

-- among those of `reach` is no operation, a size word, a number or the limit has another form, or it is asked for what excludes one another
abbrev pub RefusesExploration : List Row → Type 0
RefusesExploration rows =
    (other_words (words_after rows) ≡ [])
    ⊎ (HasBadSetting (size_words (words_after rows)) rows ⊎ (HasBadLimit STATES_MAX (first_of (codes "limit") rows) ⊎ (draws_objects rows ≡ true)))

-- the matches of the subcommand of this name ask for nothing
abbrev pub Refuses : Text → List Row → Type 0
Refuses name rows =
    ((name ≡ codes "check") × (lists_objects rows ≡ true))
    ⊎ (((name ≡ codes "reach") × RefusesExploration rows) ⊎ ((name ≢ codes "check") × (name ≢ codes "reach") × RefusesRequest name rows))

-- `clap` takes the words, which name this subcommand, and the rows are its matches
abbrev pub AreMatches : List Text → Text → List Row → Type 0
AreMatches words name rows = (fault_of zf_app words ≡ []) × (subcommand_of zf_app words ≡ Some (name, rows))

-- what the words ask for: help or the version, where `clap` answers that it is asked for, else what the subcommand's matches ask for
abbrev pub IsAsked : List Text → Asked → Type 0
IsAsked words (About text) = IsAmong DisplayHelp (fault_of zf_app words) ⊎ IsAmong DisplayVersion (fault_of zf_app words)
IsAsked words (Work file job) = (name : Text) × (rows : List Row) × AreMatches words name rows × Asks name rows (Work file job)

-- `clap` refuses the words, for another cause than memory, help and the version
abbrev pub IsRefusedByClap : List Text → Type 0
IsRefusedByClap words = (cause : ErrorKind) × IsAmong cause (fault_of zf_app words) × (cause ≢ OutOfMemory) × (cause ≢ DisplayHelp) × (cause ≢ DisplayVersion)

-- the words are refused: by `clap`, or since its matches ask for nothing
abbrev pub IsRefused : List Text → Type 0
IsRefused words = IsRefusedByClap words ⊎ ((name : Text) × (rows : List Row) × AreMatches words name rows × Refuses name rows)
