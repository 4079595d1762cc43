-- Numbers of which it is known between which two they lie, by the value of a component. No public clause rests on this.
use Rattle.std.specs.Prelude.{ℤ, ◌+ℤ◌, ◌*ℤ◌, ◌≤ℤ◌, FitsSigned}
use Rattle.zf_enum.specs.Prelude.{w32}
use Rattle.zf_enum.specs.declared.interval.Interval.{Interval}

-- m is so many times v, and a number from the lowest to the highest
abbrev pub Spans : Interval → (v m : ℤ) → Type 0
Spans s v m = (((s.times *ℤ v) +ℤ s.low) ≤ℤ m) × (m ≤ℤ ((s.times *ℤ v) +ℤ s.high))

-- its numbers have 32 bits
abbrev pub IsSmall : Interval → Type 0
IsSmall s = FitsSigned w32 s.times × FitsSigned w32 s.low × FitsSigned w32 s.high
