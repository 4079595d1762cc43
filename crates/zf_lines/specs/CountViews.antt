-- What a counted device counts.
use Rattle.std.specs.Prelude.{ℕ, ◌+◌, ◌-◌, ◌^◌, ◌==◌, ◌&&◌, Bool, true, not, min, List, length, Result, Ok, Err, if◌then◌else◌}

-- the count after one more call
abbrev pub count_after : ℕ → Bool → ℕ
count_after n failed = if failed then min (n + 1) (2 ^ 64 - 1) else n

-- the write failed, or took nothing of a nonempty slice
abbrev pub is_failed_write : {E : Type 0} → Result ℕ E → List ℕ → Bool
is_failed_write (Ok n) bytes = (n == 0) && not (length bytes == 0)
is_failed_write (Err e) bytes = true
