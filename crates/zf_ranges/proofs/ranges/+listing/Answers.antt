-- The values that are members of each of several declared sets.
use Rattle.zf_ranges.proofs.Prelude.{◌∙◌, ◌≡◌, ap, List, map, subst, suc, sym, true, IsAscending, of-Either, DeclaredSet, set_of, sets_of, Domain, environment_of, IsOneOut, IsAllOf, IsAllOfEach, NarrowsAll}
use Rattle.zf_finite.specs.Finite as spec
use Rattle.zf_ranges.proofs.Lacks.{passed}
use Rattle.zf_ranges.proofs.Sides.{rest, sides_bound, out_at, out_before, out_behind, all_of_each, all_of_sides}
use Rattle.zf_ranges.proofs.ranges.+listing.Goals as goal

pub range-returns-in_err-found-clause-out : goal.range-returns-in_err-found-clause-out
range-returns-in_err-found-clause-out t c b =
    let e = environment_of c.args.env.now in
    let at = c.in_ok-place.ensures b in
    passed c.in_err-found.field-0.0 c.from_residual-in_err-found.result _ _ c.from_residual-in_err-found.ensures.1
    (out_at e c.args.domains.now c.in_ok-place.place c.index-domains-place.result c.index-domains-place.is at.within)
    (c.in_err-found.ensures.out (at.bounds c.index-domains-place.result c.index-domains-place.is))

pub range-returns-in_err-found-2-clause-out : goal.range-returns-in_err-found-2-clause-out
range-returns-in_err-found-2-clause-out t c b =
    passed c.in_err-found-2.field-0.0 c.from_residual-in_err-found-2.result _ _ c.from_residual-in_err-found-2.ensures.1
    (out_before (environment_of c.args.env.now) c.args.domains.now c.in_ok-place.place)
    c.in_err-found-2.ensures.out

pub range-returns-in_err-found-3-clause-out : goal.range-returns-in_err-found-3-clause-out
range-returns-in_err-found-3-clause-out t c b =
    passed c.in_err-found-3.field-0.0 c.from_residual-in_err-found-3.result _ _ c.from_residual-in_err-found-3.ensures.1
    (λ o. out_behind (environment_of c.args.env.now) c.args.domains.now (suc c.in_ok-place.place)
    (subst (λ (ds : List Domain). IsOneOut (environment_of c.args.env.now) (sets_of (map set_of ds))) (rest c.args.domains.now c.in_ok-place.place) o))
    c.in_err-found-3.ensures.out

pub range-returns-clause-is : goal.range-returns-clause-is
range-returns-clause-is t c b =
    let e = environment_of c.args.env.now in
    let at = c.in_ok-place.ensures b in
    all_of_each e c.args.domains.now c.in_ok-place.place c.index-domains-place.result c.in_ok-found.found.items c.in_ok-found-2.found.items
    c.in_ok-found-3.found.items c.index-domains-place.is at.within
    (c.in_ok-found.ensures.is (at.bounds c.index-domains-place.result c.index-domains-place.is)) c.in_ok-found-2.ensures.is
    (subst (λ (ds : List Domain). NarrowsAll e (sets_of (map set_of ds)) c.in_ok-found-2.found.items c.in_ok-found-3.found.items)
    (rest c.args.domains.now c.in_ok-place.place) c.in_ok-found-3.ensures.is)

pub values-returns-in_ok-merged-in-Either-clause-is : goal.values-returns-in_ok-merged-in-Either-clause-is
values-returns-in_ok-merged-in-Either-clause-is t c b =
    let e = environment_of c.args.env.now in
    let both = sides_bound (environment_of c.args.env.now).numbers (environment_of c.args.env.now).globals c.args.domain.now c.in-Either.left c.in-Either.right c.in-Either.is b in
    let left = subst (λ (ds : List Domain). IsAllOfEach e (sets_of (map set_of ds)) c.in_ok-left-in-Either.left.items)
    (c.as_slice.ensures ∙ c.get-in-Either.ensures) (c.in_ok-left-in-Either.ensures.is
    (subst (λ (ds : List Domain). spec.one_bounds (environment_of c.args.env.now).numbers (environment_of c.args.env.now).globals (sets_of (map set_of ds))
    ≡ true) (sym (c.as_slice.ensures ∙ c.get-in-Either.ensures)) both.0)) in
    let right = subst (λ (ds : List Domain). IsAllOfEach e (sets_of (map set_of ds)) c.in_ok-right-in-Either.right.items)
    (c.as_slice-in-Either.ensures ∙ c.get-in-Either-2.ensures) (c.in_ok-right-in-Either.ensures.is
    (subst (λ (ds : List Domain). spec.one_bounds (environment_of c.args.env.now).numbers (environment_of c.args.env.now).globals (sets_of (map set_of ds))
    ≡ true) (sym (c.as_slice-in-Either.ensures ∙ c.get-in-Either-2.ensures)) both.1)) in
    subst (λ (d : DeclaredSet). IsAllOf e d c.in_ok-merged-in-Either.field-0.items) (sym (ap set_of c.in-Either.is ∙ of-Either c.in-Either.left c.in-Either.right))
    (all_of_sides e (sets_of (map set_of c.in-Either.left)) (sets_of (map set_of c.in-Either.right)) c.in_ok-left-in-Either.left.items
    c.in_ok-right-in-Either.right.items c.in_ok-merged-in-Either.field-0.items left right c.in_ok-merged-in-Either.ensures)

pub range-returns-then-place-domains-clause-ascending : goal.range-returns-then-place-domains-clause-ascending
range-returns-then-place-domains-clause-ascending t c = subst IsAscending (sym c.new.ensures.items) tt
