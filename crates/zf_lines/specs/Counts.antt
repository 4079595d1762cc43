-- What a counted device is seen as, and which calls count as failures.
use Rattle.std.specs.Prelude.{ℕ}
use Rattle.zf_lines.specs.declared.counted.Counted.{Counted}

abbrev pub device_of : {T : Type 0} → Counted T → T
device_of c = c.device

abbrev pub failures_of : {T : Type 0} → Counted T → ℕ
failures_of c = c.failures
