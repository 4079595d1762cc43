use Rattle.zf_enum.proofs.Prelude.{take, Value, IsMember, StaysIn, HasPlace}
use Rattle.zf_enum.proofs.candidates.gather_members.Given as goal

abbrev pub invariant-loop-value : goal.invariant-loop-value
invariant-loop-value l = StaysIn l.fn.gathered.items l.gathered.items × ((v : Value) → IsMember v (take l.value-index l.values) → HasPlace v l.range l.gathered.items)
