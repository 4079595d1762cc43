use Rattle.zf_finite.proofs.Prelude.{◌≡◌, drop, map, set_of, sets_of, first, all_plain_spans, option_or}
use Rattle.zf_finite.proofs.finiteness.+plain.Given as goal

abbrev pub invariant-all_plain_after-loop-domain : goal.invariant-all_plain_after-loop-domain
invariant-all_plain_after-loop-domain l =
    option_or l.fn.found (first (all_plain_spans (sets_of (map set_of l.domains))))
    ≡ option_or l.span (first (all_plain_spans (sets_of (map set_of (drop l.domain-index l.domain-items)))))
