-- What is still ahead decides which of the schemas is refused first.
use Rattle.zf_engine.proofs.Prelude.{map, environment_of, drop, IsAhead, all_of, named_of, schemas_of}
use Rattle.zf_engine.proofs.Reaching.{Ends, TellsEndless}
use Rattle.zf_engine.proofs.reach.check_all_finite.Given as goal

abbrev pub invariant-loop-named : goal.invariant-loop-named
invariant-loop-named l =
    let e = environment_of l.env in
    IsAhead (Ends e) (TellsEndless l.task.exploration.now l.task.report.source.now e) (all_of (schemas_of l.schemas))
    (map named_of (drop l.named-index l.named-items))
