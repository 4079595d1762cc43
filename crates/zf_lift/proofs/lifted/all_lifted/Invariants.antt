use Rattle.zf_lift.proofs.Prelude.{map, take, resolved_of, environment_of, AreEach, Follows, IsLonger, IsLift}
use Rattle.zf_lift.proofs.lifted.all_lifted.Given as goal

abbrev pub invariant-loop-term : goal.invariant-loop-term
invariant-loop-term l =
    Follows l.fn.own l.own
    × (IsLonger (environment_of l.base) (environment_of l.fn.own.env) → AreEach (IsLift 0 (environment_of l.own.env) (environment_of l.base) l.own.is_closed)
    (map resolved_of l.all.items) (map resolved_of (take l.term-index l.terms)))
