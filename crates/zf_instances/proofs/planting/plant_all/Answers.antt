use Rattle.zf_instances.proofs.Prelude.{List, map, subst, sym, take, trees_of, resolved_of, ResolvedTree, Resolved, ArePlanted}
use Rattle.zf_enum.proofs.ConjunctTerms.{one_term_more, whole}
use Rattle.zf_instances.proofs.planting.plant_all.Goals as goal

pub loop-conjunct-preserved : goal.loop-conjunct-preserved
loop-conjunct-preserved c =
    let i = c.loop-conjunct.conjunct-index in
    subst (λ (ps : List ResolvedTree). ArePlanted ps c.plant_next.new.leaves.items (trees_of c.plant_next.new.forest))
    (sym (one_term_more c.args.conjuncts.now i c.conjunct-item.result c.conjunct-item.is c.loop-conjunct-test.true))
    (c.in_ok-plant_next.ensures (map resolved_of (take i c.args.conjuncts.now)) c.loop-conjunct.invariant)

pub returns : goal.returns
returns c =
    subst (λ (cs : List Resolved). ArePlanted (map resolved_of cs) c.loop-conjunct.leaves.items (trees_of c.loop-conjunct.forest))
    (whole c.args.conjuncts.now c.loop-conjunct.conjunct-index c.loop-conjunct-test.false) c.loop-conjunct.invariant
