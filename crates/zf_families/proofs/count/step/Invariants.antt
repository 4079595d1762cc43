use Rattle.zf_families.proofs.Prelude.{◌++◌, ◌-◌, ◌<◌, ◌≡◌, drop, length, take, stepped}
use Rattle.zf_families.proofs.count.step.Given as goal

abbrev pub invariant-loop-used : goal.invariant-loop-used
invariant-loop-used l = (l.used < length l.reached) × (stepped l.to l.initial.reached ≡ take l.used l.reached ++ stepped (l.to - l.used) (drop l.used l.reached))
