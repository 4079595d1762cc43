use Rattle.zf_enum.proofs.Prelude.{◌+◌, ◌≡◌, List, map, subst, sym, take, conjunct_of, resolved_of, Resolved}
use Rattle.zf_enum.proofs.ConjunctTerms.{one_more, all_done}
use Rattle.zf_enum.proofs.start.resolved.Goals as goal

pub loop-conjunct-preserved : goal.loop-conjunct-preserved
loop-conjunct-preserved c =
    subst (λ (ts : List Resolved). map resolved_of ts ≡ map conjunct_of (take (c.loop-conjunct.conjunct-index + 1) c.args.conjuncts.now)) (sym c.in_ok-push.ensures.items)
    (one_more c.loop-conjunct.terms.items c.args.conjuncts.now c.loop-conjunct.conjunct-index c.conjunct-item.result _ c.conjunct-item.is
    c.loop-conjunct-test.true c.loop-conjunct.invariant c.in_ok-resolved.ensures)

pub returns : goal.returns
returns c = all_done c.loop-conjunct.terms.items c.args.conjuncts.now c.loop-conjunct.conjunct-index c.loop-conjunct-test.false c.loop-conjunct.invariant
