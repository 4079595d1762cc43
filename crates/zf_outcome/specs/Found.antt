-- Outcomes that are lent, as outcomes. No public clause rests on this.
use Rattle.std.specs.Prelude.{Option, Some, None}
use Rattle.zf_outcome.specs.Prelude.{Value, Outcome}
use denote.Bor.{Bor}
use Rattle.zf_value.specs.declared.value.Outcome.TheVariants as outcome
use Rattle.zf_outcome.specs.declared.found.Found.{Found}
use Rattle.zf_outcome.specs.declared.found.Found.TheVariants.{Is, Undefined, Out}

abbrev pub found_outcome : Found → Outcome
found_outcome (Is v) = outcome.Is v
found_outcome Undefined = outcome.Undefined
found_outcome Out = outcome.Out

abbrev pub found_of : Option (Bor Value) → Outcome
found_of None = outcome.Undefined
found_of (Some v) = outcome.Is v.now
