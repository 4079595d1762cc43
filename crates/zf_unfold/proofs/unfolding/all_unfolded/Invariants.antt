use Rattle.zf_unfold.proofs.Prelude.{map, take, resolved_of, Environment, environment_of, AreEach, IsLonger, IsBase, IsUnfolded}
use Rattle.zf_unfold.proofs.unfolding.all_unfolded.Given as goal

abbrev pub invariant-loop-term : goal.invariant-loop-term
invariant-loop-term l =
    IsLonger (environment_of l.fn.own) (environment_of l.own)
    × ((e : Environment) → IsBase l.count e (environment_of l.fn.own) → AreEach (IsUnfolded (environment_of l.own) e) (map resolved_of l.all.items) (map resolved_of (take l.term-index l.terms)))
