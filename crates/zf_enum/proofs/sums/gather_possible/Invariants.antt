use Rattle.zf_enum.proofs.Prelude.{StaysIn}
use Rattle.zf_enum.proofs.Balanced.{RuledUpTo}
use Rattle.zf_enum.proofs.sums.gather_possible.Given as goal

-- The values that were tried are gathered, or ruled out.
abbrev pub invariant-loop-place : goal.invariant-loop-place
invariant-loop-place l = StaysIn l.fn.gathered.items l.gathered.items × RuledUpTo l.relation l.interval l.range l.place l.gathered.items
