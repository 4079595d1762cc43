-- The values of the sources so far.
use Rattle.zf_steps.proofs.Prelude.{◌≡◌, map, take, source_value}
use Rattle.zf_steps.proofs.rows.held_by.Given as goal

abbrev pub invariant-loop-source : goal.invariant-loop-source
invariant-loop-source l = l.held.items ≡ map (source_value l.values) (take l.source-index l.sources)
