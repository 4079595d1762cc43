use Rattle.zf_lift.proofs.Prelude.{map, take, range_of, resolved_link_of, resolved_of, environment_of, AreEach, Follows, IsLonger, IsLift, IsLinkLift, IsRangeLift}
use Rattle.zf_lift.proofs.lifting.+lifting.Given as goal

abbrev pub invariant-lifted_terms-loop-term : goal.invariant-lifted_terms-loop-term
invariant-lifted_terms-loop-term l =
    Follows l.fn.own l.own
    × (IsLonger (environment_of l.base) (environment_of l.fn.own.env) → AreEach (IsLift l.depth (environment_of l.own.env) (environment_of l.base) l.own.is_closed)
    (map resolved_of l.parts) (map resolved_of (take l.term-index l.term-items)))

abbrev pub invariant-lifted_links-loop-link : goal.invariant-lifted_links-loop-link
invariant-lifted_links-loop-link l =
    Follows l.fn.own l.own
    × (IsLonger (environment_of l.base) (environment_of l.fn.own.env) → AreEach (IsLinkLift l.depth (environment_of l.own.env) (environment_of l.base) l.own.is_closed)
    (map resolved_link_of l.parts) (map resolved_link_of (take l.link-index l.link-items)))

abbrev pub invariant-lifted_ranges-loop-range : goal.invariant-lifted_ranges-loop-range
invariant-lifted_ranges-loop-range l =
    Follows l.fn.own l.own
    × (IsLonger (environment_of l.base) (environment_of l.fn.own.env) → AreEach (IsRangeLift l.depth (environment_of l.own.env) (environment_of l.base) l.own.is_closed)
    (map range_of l.parts) (map range_of (take l.range-index l.range-items)))
