use Rattle.zf_lift.proofs.Prelude.{◌∙◌, sym, range_of, resolved_link_of, resolved_of, environment_of, IsLater, IsLonger, IsLift, IsLinkLift, IsRangeLift}
use Rattle.std.proofs.lemmas.Result.{IfOk-weaker}
use Rattle.zf_lift.proofs.Longer.{further, itself as longest}
use Rattle.zf_lift.proofs.Wherever.{is_closed, itself, still_later, lift_later, range_later, link_later, ranges_later, part_later, terms_lift, ranges_lift, links_lift}
use Rattle.zf_lift.proofs.Arms as arms
use Rattle.zf_lift.proofs.lifting.+lifting.Goals as goal

-- ---- forms without parts

pub rebuilt-returns-in_ok-is_fixed-in-Name-clause-same : goal.rebuilt-returns-in_ok-is_fixed-in-Name-clause-same
rebuilt-returns-in_ok-is_fixed-in-Name-clause-same t c =
    let i = c.in-Name in let x = c.in_ok-is_fixed-in-Name in
    λ h. arms.name _ _ _ _ i.span i.reference c.args.term.now i.is x.ensures.known h (λ k. x.ensures.closed (c.are_both-own.ensures k).1 i.span)

pub rebuilt-returns-in-Number-clause-same : goal.rebuilt-returns-in-Number-clause-same
rebuilt-returns-in-Number-clause-same t c = let i = c.in-Number in λ h. arms.number _ _ _ _ i.span i.value c.args.term.now i.is

pub rebuilt-returns-in-Constant-clause-same : goal.rebuilt-returns-in-Constant-clause-same
rebuilt-returns-in-Constant-clause-same t c = let i = c.in-Constant in λ h. arms.constant _ _ _ _ i.span i.constant c.args.term.now i.is h

pub rebuilt-returns-in_ok-new-in-EmptySet-clause-same : goal.rebuilt-returns-in_ok-new-in-EmptySet-clause-same
rebuilt-returns-in_ok-new-in-EmptySet-clause-same t c = let i = c.in-EmptySet in λ h. arms.empty_set _ _ _ _ i.span i.of _ _ c.in_ok-new-in-EmptySet.field-0
    c.args.term.now i.is c.get.ensures c.in_ok-copy-in-EmptySet.ensures c.in_ok-new-in-EmptySet.ensures

-- ---- forms with operands

pub rebuilt-returns-in-Bracket-clause-same : goal.rebuilt-returns-in-Bracket-clause-same
rebuilt-returns-in-Bracket-clause-same t c =
    let i = c.in-Bracket in
    λ h. IfOk-weaker c.rebuilt.result _ _ (λ p x. arms.bare _ _ _ _ i.field-0 i.inner c.get-in-Bracket.result.now p c.args.term.now i.is c.get-in-Bracket.ensures x) (c.rebuilt.ensures.same h)

pub rebuilt-returns-in_ok-items-in-Listed-clause-same : goal.rebuilt-returns-in_ok-items-in-Listed-clause-same
rebuilt-returns-in_ok-items-in-Listed-clause-same t c =
    let i = c.in-Listed in let x = c.in_ok-items-in-Listed in λ h. arms.many _ _ _ _ i.span i.form i.items x.items c.args.term.now i.is (x.ensures.same h)

pub rebuilt-returns-in_ok-of-in-Unary-clause-same : goal.rebuilt-returns-in_ok-of-in-Unary-clause-same
rebuilt-returns-in_ok-of-in-Unary-clause-same t c =
    let i = c.in-Unary in let x = c.in_ok-of-in-Unary in λ h. arms.signed _ _ _ _ i.span i.operator i.of x.of c.args.term.now i.is (x.ensures.same h)

pub rebuilt-returns-in_ok-right-in-Binary-clause-same : goal.rebuilt-returns-in_ok-right-in-Binary-clause-same
rebuilt-returns-in_ok-right-in-Binary-clause-same t c =
    let i = c.in-Binary in let x = c.in_ok-left-in-Binary in let y = c.in_ok-right-in-Binary in
    λ h. arms.combined _ _ _ _ i.span i.operator i.left x.left i.right y.right c.args.term.now i.is
    (lift_later _ _ _ _ _ _ _ _ y.ensures.grows (x.ensures.same h)) (y.ensures.same (further _ _ _ h x.ensures.grows.0))

pub rebuilt-returns-in_ok-further-in-Chain-clause-same : goal.rebuilt-returns-in_ok-further-in-Chain-clause-same
rebuilt-returns-in_ok-further-in-Chain-clause-same t c =
    let i = c.in-Chain in let x = c.in_ok-first-in-Chain in let y = c.in_ok-further-in-Chain in
    λ h. arms.chained _ _ _ _ i.span i.first x.first i.further y.further c.args.term.now i.is
    (lift_later _ _ _ _ _ _ _ _ y.ensures.grows (x.ensures.same h)) (y.ensures.same (further _ _ _ h x.ensures.grows.0))

-- ---- forms that bind

pub rebuilt-returns-in_ok-term-in-Comprehension-clause-same : goal.rebuilt-returns-in_ok-term-in-Comprehension-clause-same
rebuilt-returns-in_ok-term-in-Comprehension-clause-same t c =
    let i = c.in-Comprehension in let x = c.in_ok-variables-in-Comprehension in let y = c.in_ok-filter-in-Comprehension in let z = c.in_ok-term-in-Comprehension in
    λ h. let first = further _ _ _ h x.ensures.grows.0 in
    arms.built _ _ _ _ _ i.span x.variables i.variables c.as_slice.result.now y.filter i.filter z.term i.term c.args.term.now i.is
    c.as_slice.ensures c.in_ok-inside-in-Comprehension.ensures
    (ranges_later _ _ _ _ _ _ _ _ (still_later _ _ _ _ _ _ y.ensures.grows z.ensures.grows) (x.ensures.same h))
    (part_later _ _ _ _ _ _ _ _ z.ensures.grows (y.ensures.same first))
    (z.ensures.same (further _ _ _ first y.ensures.grows.0))

pub rebuilt-returns-in_ok-body-in-Quantified-clause-same : goal.rebuilt-returns-in_ok-body-in-Quantified-clause-same
rebuilt-returns-in_ok-body-in-Quantified-clause-same t c =
    let i = c.in-Quantified in let x = c.in_ok-variables-in-Quantified in let y = c.in_ok-constraint-in-Quantified in let z = c.in_ok-body-in-Quantified in
    λ h. let first = further _ _ _ h x.ensures.grows.0 in
    arms.bound _ _ _ _ _ i.span i.quantifier x.variables i.variables c.as_slice-in-Quantified.result.now y.constraint i.constraint i.body z.body
    c.args.term.now i.is c.as_slice-in-Quantified.ensures c.in_ok-inside-in-Quantified.ensures
    (ranges_later _ _ _ _ _ _ _ _ (still_later _ _ _ _ _ _ y.ensures.grows z.ensures.grows) (x.ensures.same h))
    (part_later _ _ _ _ _ _ _ _ z.ensures.grows (y.ensures.same first))
    (z.ensures.same (further _ _ _ first y.ensures.grows.0))

-- ---- parts

pub lifted_box-returns-clause-same : goal.lifted_box-returns-clause-same
lifted_box-returns-clause-same t c =
    let x = c.in_ok-part in λ h. arms.boxed _ _ _ _ c.args.term.now c.get.result.now x.part c.in_ok-new.field-0 c.get.ensures c.in_ok-new.ensures (x.ensures.same h)

pub lifted_part-returns-in_ok-new-in-None-clause-same : goal.lifted_part-returns-in_ok-new-in-None-clause-same
lifted_part-returns-in_ok-new-in-None-clause-same t c = λ h. arms.no_part _ _ _ _ c.in_ok-new-in-None.field-0 c.args.part.now (sym c.get.ensures ∙ c.in-None.is) c.in_ok-new-in-None.ensures

pub lifted_part-returns-in_ok-new-in-Some-clause-same : goal.lifted_part-returns-in_ok-new-in-Some-clause-same
lifted_part-returns-in_ok-new-in-Some-clause-same t c =
    let x = c.in_ok-part-in-Some in let inner = c.in_ok-inner-in-Some in
    λ h. arms.some_part _ _ _ _ c.in-Some.term inner.inner c.in_ok-new-in-Some.field-0 c.args.part.now (sym c.get.ensures ∙ c.in-Some.is) c.in_ok-new-in-Some.ensures
    (arms.boxed _ _ _ _ c.in-Some.term c.get-in-Some.result.now x.part inner.inner c.get-in-Some.ensures inner.ensures (x.ensures.same h))

pub lifted_link-returns-clause-same : goal.lifted_link-returns-clause-same
lifted_link-returns-clause-same t c = let x = c.in_ok-lifted_right in λ h. arms.one_link _ _ _ _ c.args.link.now x.field-0 (x.ensures.same h)

pub lifted_range-returns-clause-same : goal.lifted_range-returns-clause-same
lifted_range-returns-clause-same t c = let x = c.in_ok-lifted in λ h. arms.one_range _ _ _ _ c.args.range.now x.field-0 (x.ensures.same h)

-- ---- lists

pub lifted_terms-loop-term-init : goal.lifted_terms-loop-term-init
lifted_terms-loop-term-init t c = (
  itself _ _,
  λ h. arms.none_yet resolved_of (IsLift c.args.depth (environment_of c.args.own.now.env) (environment_of c.args.base.now) c.args.own.now.is_closed) c.in_ok-parts.parts
      c.in_ok-parts.ensures,
)

pub lifted_terms-loop-term-preserved : goal.lifted_terms-loop-term-preserved
lifted_terms-loop-term-preserved t c =
    let l = c.loop-term in let x = c.in_ok-part in let own = c.lifted.new.own in (
      still_later _ _ _ _ _ _ l.invariant.0 x.ensures.grows,
      λ h. arms.one_more resolved_of (IsLift c.args.depth (environment_of l.own.env) (environment_of c.args.base.now) l.own.is_closed)
          (IsLift c.args.depth (environment_of own.env) (environment_of c.args.base.now) own.is_closed) l.parts c.as_slice-term-items.result.now c.push.new.self
          l.term-index c.term-item.result x.part c.term-item.is c.loop-term-test.true c.in_ok-push.ensures.ok
          (λ y z. lift_later c.args.depth _ _ _ _ _ y z x.ensures.grows) (l.invariant.1 h) (x.ensures.same (further _ _ _ h l.invariant.0.0)),
    )

pub lifted_terms-returns-clause-same : goal.lifted_terms-returns-clause-same
lifted_terms-returns-clause-same t c =
    let l = c.loop-term in
    λ h. terms_lift c.args.depth _ _ _ _ _ (arms.all_done resolved_of (IsLift c.args.depth (environment_of l.own.env) (environment_of c.args.base.now) l.own.is_closed)
    l.parts c.in_ok-new.field-0 c.as_slice-term-items.result.now c.args.items.now l.term-index c.in_ok-new.ensures c.as_slice-term-items.ensures
    c.loop-term-test.false (l.invariant.1 h))

pub lifted_links-loop-link-init : goal.lifted_links-loop-link-init
lifted_links-loop-link-init t c = (
  itself _ _,
  λ h. arms.none_yet resolved_link_of (IsLinkLift c.args.depth (environment_of c.args.own.now.env) (environment_of c.args.base.now) c.args.own.now.is_closed) c.in_ok-parts.parts
      c.in_ok-parts.ensures,
)

pub lifted_links-loop-link-preserved : goal.lifted_links-loop-link-preserved
lifted_links-loop-link-preserved t c =
    let l = c.loop-link in let x = c.in_ok-part in let own = c.lifted_link.new.own in (
      still_later _ _ _ _ _ _ l.invariant.0 x.ensures.grows,
      λ h. arms.one_more resolved_link_of (IsLinkLift c.args.depth (environment_of l.own.env) (environment_of c.args.base.now) l.own.is_closed)
          (IsLinkLift c.args.depth (environment_of own.env) (environment_of c.args.base.now) own.is_closed) l.parts c.as_slice-link-items.result.now c.push.new.self
          l.link-index c.link-item.result x.part c.link-item.is c.loop-link-test.true c.in_ok-push.ensures.ok
          (λ y z. link_later c.args.depth _ _ _ _ _ y z x.ensures.grows) (l.invariant.1 h) (x.ensures.same (further _ _ _ h l.invariant.0.0)),
    )

pub lifted_links-returns-clause-same : goal.lifted_links-returns-clause-same
lifted_links-returns-clause-same t c =
    let l = c.loop-link in
    λ h. links_lift c.args.depth _ _ _ _ _ (arms.all_done resolved_link_of (IsLinkLift c.args.depth (environment_of l.own.env) (environment_of c.args.base.now) l.own.is_closed)
    l.parts c.in_ok-new.field-0 c.as_slice-link-items.result.now c.args.further.now l.link-index c.in_ok-new.ensures c.as_slice-link-items.ensures
    c.loop-link-test.false (l.invariant.1 h))

pub lifted_ranges-loop-range-init : goal.lifted_ranges-loop-range-init
lifted_ranges-loop-range-init t c = (
  itself _ _,
  λ h. arms.none_yet range_of (IsRangeLift c.args.depth (environment_of c.args.own.now.env) (environment_of c.args.base.now) c.args.own.now.is_closed) c.in_ok-parts.parts
      c.in_ok-parts.ensures,
)

pub lifted_ranges-loop-range-preserved : goal.lifted_ranges-loop-range-preserved
lifted_ranges-loop-range-preserved t c =
    let l = c.loop-range in let x = c.in_ok-part in let own = c.lifted_range.new.own in (
      still_later _ _ _ _ _ _ l.invariant.0 x.ensures.grows,
      λ h. arms.one_more range_of (IsRangeLift c.args.depth (environment_of l.own.env) (environment_of c.args.base.now) l.own.is_closed)
          (IsRangeLift c.args.depth (environment_of own.env) (environment_of c.args.base.now) own.is_closed) l.parts c.as_slice-range-items.result.now c.push.new.self
          l.range-index c.range-item.result x.part c.range-item.is c.loop-range-test.true c.in_ok-push.ensures.ok
          (λ y z. range_later c.args.depth _ _ _ _ _ y z x.ensures.grows) (l.invariant.1 h) (x.ensures.same (further _ _ _ h l.invariant.0.0)),
    )

pub lifted_ranges-returns-clause-same : goal.lifted_ranges-returns-clause-same
lifted_ranges-returns-clause-same t c =
    let l = c.loop-range in
    λ h. ranges_lift c.args.depth _ _ _ _ _ (arms.all_done range_of (IsRangeLift c.args.depth (environment_of l.own.env) (environment_of c.args.base.now) l.own.is_closed)
    l.parts c.in_ok-new.field-0 c.as_slice-range-items.result.now c.args.variables.now l.range-index c.in_ok-new.ensures c.as_slice-range-items.ensures
    c.loop-range-test.false (l.invariant.1 h))

-- ---- a term

pub lifted-returns-then-not-is_closed-clause-grows : goal.lifted-returns-then-not-is_closed-clause-grows
lifted-returns-then-not-is_closed-clause-grows t c = (c.in_ok-part.ensures.grows.0, λ k. (c.are_both-own.ensures k).0)

pub lifted-returns-then-not-is_closed-clause-same : goal.lifted-returns-then-not-is_closed-clause-same
lifted-returns-then-not-is_closed-clause-same t c = λ h. lift_later _ _ _ _ _ _ _ _ (longest _, λ k. (c.are_both-own.ensures k).1) (c.in_ok-part.ensures.same h)

pub lifted-returns-clause-grows : goal.lifted-returns-clause-grows
lifted-returns-clause-grows t c =
    let own = c.args.own.now in
    IfOk-weaker c.named.result (λ x. IsLonger (environment_of c.rebuilt.new.own.env) (environment_of c.named.new.own))
    (λ x. IsLater (environment_of own.env) own.is_closed (environment_of c.named.new.own) c.are_both-own.result)
    (λ x h. (further _ _ _ c.in_ok-part.ensures.grows.0 h, λ k. (c.are_both-own.ensures k).0)) c.named.ensures.grows

pub lifted-returns-clause-same : goal.lifted-returns-clause-same
lifted-returns-clause-same t c = λ h.
    let x = c.in_ok-part in
    let lift = x.ensures.same h in
    let also = lift_later _ _ _ _ _ _ _ _ (longest _, λ k. (c.are_both-own.ensures k).1) lift in
    c.named.ensures.same c.are_both-own.result (further _ _ _ h x.ensures.grows.0) (is_closed _ _ _ _ _ _ lift c.if-not-is_closed.false) also
