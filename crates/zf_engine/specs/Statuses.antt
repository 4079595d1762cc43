-- The status that a process ends with, by what its words ask for.
use Rattle.std.specs.Prelude.{◌≡◌, ◌⊎◌, ℕ, List, []}
use Rattle.zf_engine.specs.Prelude.{Job, IsAsked, IsRefused, Status, number}
use Rattle.zf_command.specs.declared.job.Asked.TheVariants.{About, Work}
use Rattle.zf_engine.specs.Jobs.{Answer}
use Rattle.zf_command.specs.declared.job.UsageFault.{UsageFault}
use Rattle.zf_command.specs.declared.job.UsageFault.TheVariants.{BadWords, OutOfMemory}

-- the status where the words are refused
abbrev pub refused_number : UsageFault → ℕ
refused_number BadWords = 2
refused_number OutOfMemory = 4

-- the greatest: a file can't be opened, or a read or a write failed
abbrev pub status_max : ℕ
status_max = 5

-- the number of the status of an answer of the job on some source: which bytes the file has is not known here
abbrev pub IsAnswered : Job → (file : List ℕ) → ℕ → Type 0
IsAnswered job file n = (source text : List ℕ) × (status : Status) × Answer job file source text status × (n ≡ number status)

-- the work is answered; or memory ran out, which is 4; or the file can't be opened, or a read or a write failed, which is 5
abbrev pub IsWorkStatus : Job → (file : List ℕ) → ℕ → Type 0
IsWorkStatus job file n = IsAnswered job file n ⊎ ((n ≡ 4) ⊎ (n ≡ 5))

-- The status of words after the program's own name.
pub data IsStatus (words : List (List ℕ)) (n : ℕ) : Type 0 where
  -- the words are refused
  refused : IsRefused words → n ≡ 2 → IsStatus words n
  -- help or the version is written, or its write failed
  told : (text : List ℕ) → IsAsked words (About text) → (n ≡ 0) ⊎ (n ≡ 5) → IsStatus words n
  -- they ask for work
  worked : (file : List ℕ) (job : Job) → IsAsked words (Work file job) → IsWorkStatus job file n → IsStatus words n
  -- memory ran out before it was known what they ask for
  unread : n ≡ 4 → IsStatus words n

-- `clap` may answer the words with help or the version
abbrev pub MayBeTold : List (List ℕ) → Type 0
MayBeTold words = IsAsked words (About [])

-- the words are refused, and neither help nor the version is asked for, so the status is 2, or 4 where memory ran out
abbrev pub IsStatusOfRefused : List (List ℕ) → ℕ → Type 0
IsStatusOfRefused words n = IsRefused words → (MayBeTold words → ⊥) → (n ≡ 2) ⊎ (n ≡ 4)
