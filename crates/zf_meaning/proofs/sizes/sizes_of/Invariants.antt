use Rattle.zf_term.specs.{globals_of}
use Rattle.zf_meaning.proofs.Counts.{CountsTo}
use Rattle.zf_meaning.proofs.sizes.sizes_of.Given as goal

abbrev pub invariant-loop-place : goal.invariant-loop-place
invariant-loop-place l = CountsTo l.sizes (globals_of l.globals) l.place l.counts.items
