use Rattle.zf_extent.proofs.Prelude.{◌≡◌, drop, globals_of, first, option_or}
use Rattle.zf_extent.proofs.FirstOffenders.{offending_terms, offending_links, offending_ranges}
use Rattle.zf_extent.proofs.infinite.+offending.Given as goal

abbrev pub invariant-links_after-loop-place : goal.invariant-links_after-loop-place
invariant-links_after-loop-place l =
    option_or l.fn.found (first (offending_links (globals_of l.globals) l.further)) ≡ option_or l.offender (first (offending_links (globals_of l.globals) (drop l.place l.all)))

abbrev pub invariant-ranges_offending-loop-range : goal.invariant-ranges_offending-loop-range
invariant-ranges_offending-loop-range l =
    first (offending_ranges (globals_of l.globals) l.variables) ≡ option_or l.offender (first (offending_ranges (globals_of l.globals) (drop l.range-index l.range-items)))

abbrev pub invariant-terms_offending-loop-term : goal.invariant-terms_offending-loop-term
invariant-terms_offending-loop-term l =
    first (offending_terms (globals_of l.globals) l.items) ≡ option_or l.offender (first (offending_terms (globals_of l.globals) (drop l.term-index l.term-items)))
