use Rattle.zf_unfold.proofs.Prelude.{resolved_of, Environment, environment_of, IsLonger, IsBase, IsUnfolded}
use Rattle.zf_unfold.proofs.unfolding.unfolded.Given as goal

abbrev pub invariant-loop : goal.invariant-loop
invariant-loop l =
    IsLonger (environment_of l.fn.own) (environment_of l.own)
    × ((e : Environment) → IsBase l.count e (environment_of l.fn.own) → IsUnfolded (environment_of l.own) e (resolved_of l.all) (resolved_of l.term))
