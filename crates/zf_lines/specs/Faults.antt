-- The statuses of a run, and what its writing leaves, by how it ended.
use Rattle.std.specs.Prelude.{◌≡◌, ℕ, List, ◌++◌, Result, Err}
use Rattle.zf_lines.specs.declared.fault.RunFault.{RunFault}
use Rattle.zf_lines.specs.declared.fault.RunFault.TheVariants.{ReadFailed, WriteFailed}

abbrev pub IsFront : List ℕ → List ℕ → Type 0
IsFront text front = (rest : List ℕ) × (text ≡ front ++ rest)

-- how many failures the reader counts, if it counted none before
abbrev pub read_failures : {T : Type 0} → Result T RunFault → ℕ
read_failures (Err ReadFailed) = 1
read_failures _ = 0

-- the same of the writer
abbrev pub write_failures : {T : Type 0} → Result T RunFault → ℕ
write_failures (Err WriteFailed) = 1
write_failures _ = 0
