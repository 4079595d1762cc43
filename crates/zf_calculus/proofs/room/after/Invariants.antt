use Rattle.zf_calculus.proofs.Prelude.{◌+◌, ◌≡◌, map, sum_by, set_of, measured}
use Rattle.zf_calculus.proofs.room.after.Given as goal

abbrev pub invariant-loop-domain : goal.invariant-loop-domain
invariant-loop-domain l = l.left + sum_by (measured l.measure) (map set_of l.domains) ≡ l.room + sum_by (measured l.measure) (map set_of l.domain-iterator)
