-- The number of a status, and what a write leaves of a text.
use Rattle.std.specs.Prelude.{ℕ, List, Option}
use Rattle.zf_lines.specs.Prelude.{Appends}
use Rattle.zf_lines.specs.declared.fault.Status.{Status}
use Rattle.zf_lines.specs.declared.fault.Status.TheVariants.{Done, BadSpec, BadRequest, PastBounds}
use Rattle.zf_lines.specs.Faults.{IsFront}

-- the status of a process
abbrev pub number : Status → ℕ
number Done = 0
number BadSpec = 1
number BadRequest = 2
number PastBounds = 3

-- what a writer holds grew by some front of the text
abbrev pub AppendsFront : Option (List ℕ) → Option (List ℕ) → List ℕ → Type 0
AppendsFront old new text = (front : List ℕ) × IsFront text front × Appends old new front
