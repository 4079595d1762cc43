use Rattle.zf_ranges.proofs.Prelude.{take, IsMember, Lists}
use Rattle.zf_ranges.proofs.kept.kept.Given as goal

abbrev pub invariant-loop-value : goal.invariant-loop-value
invariant-loop-value g l = Lists (λ v. IsMember v (take l.value-index l.values) × g.T.Test.passes l.test v) l.out.items
