use Rattle.zf_extent.proofs.Prelude.{◌≡◌, drop, map, conjunct_of, globals_of, first, option_or}
use Rattle.zf_extent.proofs.JoinedOffences.{offenders, side}
use Rattle.zf_extent.proofs.conjunct.+conjuncts.Given as goal

abbrev pub invariant-side_offending_after-loop-batch : goal.invariant-side_offending_after-loop-batch
invariant-side_offending_after-loop-batch l =
    option_or l.fn.found (first (side (globals_of l.globals) l.batches)) ≡ option_or l.offender (first (side (globals_of l.globals) (drop l.batch-index l.batch-items)))

abbrev pub invariant-all_offending_after-loop-conjunct : goal.invariant-all_offending_after-loop-conjunct
invariant-all_offending_after-loop-conjunct l =
    option_or l.fn.found (first (offenders (globals_of l.globals) (map conjunct_of l.conjuncts)))
    ≡ option_or l.offender (first (offenders (globals_of l.globals) (map conjunct_of (drop l.conjunct-index l.conjunct-items))))
