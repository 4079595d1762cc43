-- A source that is not cut, and want of memory.
use Rattle.std.specs.Prelude.{◌≡◌, ℕ, List}
use Rattle.zf_scan.specs.declared.fault.TextFault.{TextFault}
use Rattle.zf_scan.specs.declared.fault.TextFaultKind.TheVariants.{OutOfMemory}
use Rattle.zf_scan.specs.declared.token.Token.{Token}
use Rattle.zf_scan.specs.Cuts.{IsCutInto, nowhere}

abbrev pub IsUncut : List ℕ → Type 0
IsUncut source = (tokens : List Token) → IsCutInto source tokens → ⊥

abbrev pub IsWantOfMemory : TextFault → Type 0
IsWantOfMemory fault = (fault.kind ≡ OutOfMemory) × (fault.span ≡ nowhere)
