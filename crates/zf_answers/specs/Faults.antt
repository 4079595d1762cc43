-- The statuses of a process, and what a reader gave.
use Rattle.std.specs.Prelude.{◌≡◌, ◌≤◌, ℕ, ◌+◌, ◌⊎◌, List, length, Option}
use Rattle.zf_answers.specs.Prelude.{Consumes, IsAtEnd, SOURCE_MAX}

-- the reader gave these bytes, and is at its end or gave one byte more than a source may have
abbrev pub Gave : Option (List ℕ) → Option (List ℕ) → List ℕ → Type 0
Gave old new bytes = Consumes old new bytes × (IsAtEnd new ⊎ (length bytes ≡ SOURCE_MAX + 1))

-- however the reading ended, the reader gave at most so many bytes
abbrev pub GaveAtMost : ℕ → Option (List ℕ) → Option (List ℕ) → Type 0
GaveAtMost most old new = (bytes : List ℕ) × Consumes old new bytes × (length bytes ≤ most)
