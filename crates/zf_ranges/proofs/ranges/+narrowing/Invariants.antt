use Rattle.zf_ranges.proofs.Prelude.{environment_of, NarrowsAll}
use Rattle.zf_ranges.proofs.Sides.{front}
use Rattle.zf_ranges.proofs.ranges.+narrowing.Given as goal

abbrev pub invariant-narrowed-loop-domain : goal.invariant-narrowed-loop-domain
invariant-narrowed-loop-domain l = NarrowsAll (environment_of l.env) (front l.domain-index l.domains) l.fn.values.items l.found.items
