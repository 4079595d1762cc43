-- The values that each declared set leaves.
use Rattle.zf_ranges.proofs.Prelude.{◌∙◌, ◌≡◌, ap, List, map, subst, sym, Value, of-Either, DeclaredSet, set_of, sets_of, Domain, environment_of, Narrows, NarrowsAll}
use Rattle.zf_ranges.proofs.Lacks.{passed}
use Rattle.zf_ranges.proofs.Sides.{narrows_next, out_at, some_of_sides}
use Rattle.zf_ranges.proofs.ranges.+narrowing.Goals as goal

pub narrowed-returns-in_err-found-clause-out : goal.narrowed-returns-in_err-found-clause-out
narrowed-returns-in_err-found-clause-out t c =
    passed c.in_err-found.field-0.0 c.from_residual.result _ _ c.from_residual.ensures.1
    (out_at (environment_of c.args.env.now) c.args.domains.now c.loop-domain.domain-index c.domain-item.result c.domain-item.is c.loop-domain-test.true)
    c.in_err-found.ensures.out

pub narrowed-loop-domain-preserved : goal.narrowed-loop-domain-preserved
narrowed-loop-domain-preserved t c =
    narrows_next (environment_of c.args.env.now) c.args.domains.now c.loop-domain.domain-index c.domain-item.result c.args.values.items
    c.loop-domain.found.items c.in_ok-found.found.items c.domain-item.is c.loop-domain-test.true c.loop-domain.invariant c.in_ok-found.ensures.is

pub narrowed_by-returns-in_ok-merged-in-Either-clause-is : goal.narrowed_by-returns-in_ok-merged-in-Either-clause-is
narrowed_by-returns-in_ok-merged-in-Either-clause-is t c =
    let e = environment_of c.args.env.now in
    let left = subst (λ (ds : List Domain). NarrowsAll e (sets_of (map set_of ds)) c.args.values.items c.in_ok-left-in-Either.left.items)
    (c.as_slice.ensures ∙ c.get-in-Either.ensures) c.in_ok-left-in-Either.ensures.is in
    let same : c.in_ok-others-in-Either.others.items ≡ c.args.values.items = c.in_ok-others-in-Either.ensures ∙ c.deref-in-Either.ensures.value in
    let right = subst (λ (vs : List Value). NarrowsAll e (sets_of (map set_of c.in-Either.right)) vs c.in_ok-right-in-Either.right.items) same
    (subst (λ (ds : List Domain). NarrowsAll e (sets_of (map set_of ds)) c.in_ok-others-in-Either.others.items c.in_ok-right-in-Either.right.items)
    (c.as_slice-in-Either.ensures ∙ c.get-in-Either-2.ensures) c.in_ok-right-in-Either.ensures.is) in
    subst (λ (d : DeclaredSet). Narrows e d c.args.values.items c.in_ok-merged-in-Either.field-0.items) (sym (ap set_of c.in-Either.is ∙ of-Either c.in-Either.left c.in-Either.right))
    (some_of_sides e (sets_of (map set_of c.in-Either.left)) (sets_of (map set_of c.in-Either.right)) c.args.values.items c.in_ok-left-in-Either.left.items
    c.in_ok-right-in-Either.right.items c.in_ok-merged-in-Either.field-0.items left right c.in_ok-merged-in-Either.ensures)
