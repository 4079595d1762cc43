use Rattle.zf_finite.proofs.Prelude.{◌≡◌, map, set_of, sets_of, first, all_plain_spans, option_or}
use Rattle.zf_finite.proofs.finiteness.plain_in.Given as goal

abbrev pub invariant-loop-domain : goal.invariant-loop-domain
invariant-loop-domain l =
    first (all_plain_spans (sets_of (map set_of l.domains)))
    ≡ option_or l.span (first (all_plain_spans (sets_of (map set_of l.domain-iterator))))
