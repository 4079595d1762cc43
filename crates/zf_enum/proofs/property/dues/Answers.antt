use Rattle.zf_enum.proofs.Prelude.{◌+◌, ◌<◌, ◌^◌, ◌≡◌, ap, List, map, subst, sym, take, ℕ, length-map, resolved_of, due, due_of}
use Rattle.zf_enum.proofs.Judging.{at_place, one_need_more, all_needs}
use Rattle.zf_enum.proofs.property.dues.Goals as goal

pub due-requires : goal.due-requires
due-requires c =
    subst (λ (n : ℕ). n < 2 ^ 64) (ap due_of (at_place c.args.conjuncts.now c.loop-conjunct.conjunct-index c.conjunct-item.result c.conjunct-item.is
    (subst (λ n. c.loop-conjunct.conjunct-index < n) (sym (length-map c.args.conjuncts.now resolved_of)) c.loop-conjunct-test.true)))
    (c.requires c.loop-conjunct.conjunct-index)

pub loop-conjunct-preserved : goal.loop-conjunct-preserved
loop-conjunct-preserved c =
    subst (λ (ns : List ℕ). ns ≡ map due (map resolved_of (take (c.loop-conjunct.conjunct-index + 1) c.args.conjuncts.now))) (sym c.in_ok-push.ensures.items)
    (one_need_more c.loop-conjunct.dues.items c.args.conjuncts.now c.loop-conjunct.conjunct-index _ c.conjunct-item.result c.conjunct-item.is
    c.loop-conjunct-test.true c.loop-conjunct.invariant c.due.ensures)

pub returns : goal.returns
returns c = all_needs c.loop-conjunct.dues.items c.args.conjuncts.now c.loop-conjunct.conjunct-index c.loop-conjunct-test.false c.loop-conjunct.invariant
