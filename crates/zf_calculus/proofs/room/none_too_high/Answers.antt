use Rattle.zf_calculus.proofs.Prelude.{refl, conjunct_of, IsLow}
use Rattle.zf_calculus.proofs.Counting.{all_ahead}
use Rattle.zf_calculus.proofs.room.none_too_high.Goals as goal

pub loop-conjunct-preserved : goal.loop-conjunct-preserved
loop-conjunct-preserved c =
    let next = all_ahead IsLow conjunct_of _ _ _ c.in-Some.ensures.steps in
    (λ rest. c.loop-conjunct.invariant.0 (next.1 (c.if-not-is_within.ensures.0 refl, rest)), λ all. (next.0 (c.loop-conjunct.invariant.1 all)).1)

pub returns-then-not-is_within : goal.returns-then-not-is_within
returns-then-not-is_within c =
    let next = all_ahead IsLow conjunct_of _ _ _ c.in-Some.ensures.steps in
    (λ h. absurd (cc), λ all. c.if-not-is_within.ensures.1 (next.0 (c.loop-conjunct.invariant.1 all)).0)
