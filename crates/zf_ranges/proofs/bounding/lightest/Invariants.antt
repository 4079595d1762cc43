use Rattle.zf_ranges.proofs.Prelude.{environment_of, BoundsAt}
use Rattle.zf_ranges.proofs.bounding.lightest.Given as goal

abbrev pub invariant-loop-place : goal.invariant-loop-place
invariant-loop-place l =
    BoundsAt (environment_of l.env).numbers (environment_of l.env).globals l.domains l.first
    → BoundsAt (environment_of l.env).numbers (environment_of l.env).globals l.domains l.best
