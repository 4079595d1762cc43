use Rattle.zf_enum.proofs.Prelude.{ℕ, ◌<◌, ◌^◌, length, map, ap, subst, arith, length-map, resolved_of, due_of}
use Rattle.zf_enum.proofs.Judging.{at_place}
use Rattle.zf_enum.proofs.spread.spreads.Goals as goal

pub add_spreads-requires : goal.add_spreads-requires
add_spreads-requires c =
    let near : c.loop-conjunct.conjunct < length (map resolved_of c.args.conjuncts.now) = omega (arith, c.loop-conjunct-test.true, length-map c.args.conjuncts.now resolved_of) in
    subst (λ (n : ℕ). n < 2 ^ 64) (ap due_of (at_place c.args.conjuncts.now c.loop-conjunct.conjunct c.index-conjuncts-conjunct.result
    c.index-conjuncts-conjunct.is near)) (c.requires c.loop-conjunct.conjunct)

pub loop-conjunct-preserved : goal.loop-conjunct-preserved
loop-conjunct-preserved c =
    let near : c.loop-conjunct.conjunct < length (map resolved_of c.args.conjuncts.now) = omega (arith, c.loop-conjunct-test.true, length-map c.args.conjuncts.now resolved_of) in
    c.in_ok-add_spreads.ensures (map resolved_of c.args.conjuncts.now) (at_place c.args.conjuncts.now c.loop-conjunct.conjunct
    c.index-conjuncts-conjunct.result c.index-conjuncts-conjunct.is near) c.loop-conjunct.invariant
