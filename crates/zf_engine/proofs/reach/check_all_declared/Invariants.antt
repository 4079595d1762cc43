-- What is still ahead decides which of the schemas is refused first; what is ahead is finite.
use Rattle.zf_engine.proofs.Prelude.{map, environment_of, drop, AllByRecursion, IsAhead, all_of, named_of, schemas_of}
use Rattle.zf_engine.proofs.Reaching.{Ends, StaysIn, TellsLeaving}
use Rattle.zf_engine.proofs.reach.check_all_declared.Given as goal

abbrev pub invariant-loop-named : goal.invariant-loop-named
invariant-loop-named l =
    let e = environment_of l.env in
    let ahead = map named_of (drop l.named-index l.named-items) in
    IsAhead (StaysIn e) (TellsLeaving e) (all_of (schemas_of l.schemas)) ahead × AllByRecursion (Ends e) ahead
