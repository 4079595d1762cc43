-- What is written of a job, and where `reach` is refused. No public clause rests on this file.
use Rattle.std.specs.Prelude.{◌⊎◌, ℕ, List, Option, Result, Ok, Err}
use Rattle.zf_engine.specs.Prelude.{Appends, Reach, Show, Status, Exploration, Request, Message, Job}
use Rattle.zf_lines.specs.declared.fault.RunFault.{RunFault}
use Rattle.zf_answers.specs.declared.stop.Stop.{Stop}
use Rattle.zf_answers.specs.Answers.{UnreadAnswer}
use Rattle.zf_answers.specs.Stops.{IfAnswered}
use Rattle.zf_engine.specs.Jobs.{AnswersSource, IsPartOfAnswer}
use Rattle.zf_engine.specs.Explorations.{RefusesExploration}

abbrev pub StopsInSource : Job → List ℕ → List ℕ → Option (List ℕ) → Option (List ℕ) → Type 0
StopsInSource job file source old new = (written : List ℕ) × IsPartOfAnswer job file source written × Appends old new written

-- the answer of the job is written, or a part of it
abbrev pub Writes : Job → (file source : List ℕ) → Option (List ℕ) → Option (List ℕ) → Result Status RunFault → Type 0
Writes job file source old new (Ok status) = AnswersSource job file source old new status
Writes job file source old new (Err fault) = StopsInSource job file source old new

abbrev pub Shows : Request → (file source : List ℕ) → Option (List ℕ) → Option (List ℕ) → Result Status RunFault → Type 0
Shows r file source old new result = Writes (Show r) file source old new result

abbrev pub Reaches : Exploration → (file source : List ℕ) → Option (List ℕ) → Option (List ℕ) → Result Status RunFault → Type 0
Reaches x file source old new result = Writes (Reach x) file source old new result

-- ---- answers of `reach` that are whole

-- the source is not read, or the exploration is refused for it
abbrev pub IsUnexplored : Exploration → (source : List ℕ) → List Message → Status → Type 0
IsUnexplored x source told status = UnreadAnswer x.details source told status ⊎ RefusesExploration x source told status

abbrev pub AnswersExploration : Exploration → (source : List ℕ) → Stop → Type 0
AnswersExploration x source stop = IfAnswered stop (IsUnexplored x source)
