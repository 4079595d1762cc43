use Rattle.zf_enum.proofs.Prelude.{◌-◌, ◌≡◌, [], get_or, length, StaysIn, resolved_of, environment_of}
use Rattle.zf_enum.proofs.Trying.{TriedUpTo}
use Rattle.zf_enum.proofs.candidates.+gather_ahead.Given as goal

abbrev pub decreases-gather_ahead : goal.decreases-gather_ahead
decreases-gather_ahead l = l.due - length l.places.now.items

-- What was tried so far.
abbrev pub invariant-loop-place : goal.invariant-loop-place
invariant-loop-place l = record {
  same : l.places.items ≡ l.fn.places.items;
  stay : StaysIn l.fn.gathered.items l.gathered.items;
  tried : TriedUpTo l.tie (environment_of l.env) (resolved_of l.side) l.ranges (get_or l.ranges l.next []) l.fn.places.items l.place l.gathered.items;
}
