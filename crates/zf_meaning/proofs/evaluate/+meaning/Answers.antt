use Rattle.zf_meaning.proofs.Prelude.{◌+◌, ◌<◌, ◌∙◌, ◌∷◌, ◌≡◌, ◌≤◌, [], ap, arith, drop, false, inl, length, List, map, Option, refl, rules, subst, sym, true, ℕ, IfOk-weaker, All, IfOk, IfSome, out_told, AreFrom, IsEmptySet, IsDisplay, of-Chain, of-Constant, of-Listed, of-Unary, part_of, resolved_of, Quantifier, Range, Resolved, size-Resolved, Describes, AreNeutral, AreNeutralIf, IsPart, IsPiece, IsWanted, neutral, NeedsFront, within, found_outcome, several_by, several_of, Builds, HasOutcome, IsBuilt, IsBuiltOver, IsConstraint, IsLink, IsTruth, row_value, seen, declared_of, spread, row_of, scope_of, is_settled, truth_by, IsConnected, IsOver, IsQuantified, IsTold, Arrows, Nothing, plain-describes, Span}
use Rattle.zf_term.specs.ResolvedTrees as tree
use Rattle.zf_term.specs.ResolvedViews as tree_views
use Rattle.zf_value.specs.declared.value.Outcome.TheVariants as outcome
use Rattle.zf_value.specs.declared.value.Truth.TheVariants.{False, Out}
use Rattle.zf_term.specs.declared.resolved.Resolved.TheVariants as v
use Rattle.zf_meaning.proofs.Binding.{same-quantifier, same-constraint, same-body, quantified-told, comprehension-has}
use Rattle.zf_meaning.proofs.Builds.{nothing, built-same, built-more, built-too-many, built-out, built-all}
use Rattle.zf_meaning.proofs.Connecting.{connected-told, decided-told, told-by}
use Rattle.zf_meaning.proofs.Early.{neutral-told, neutral-built, neutral-by, neutral-other-if, itself-passed, passed-after}
use Rattle.zf_meaning.proofs.Told.{IsTallied, none-tallied, one-more, settled-truth, all-told}
use Rattle.zf_meaning.proofs.Turns.{fewer, adds-here, told-here, one-told, one-filter, one-term, frame-bound, row-bound, next-turn, told-ended, built-ended}
use Rattle.zf_meaning.proofs.Walking.{walk-begun, walk-row, walk-done, walk-new, no-row, none-from, bound-row, outside-bound, FilterIn, TermIn, ToldIn, NeutralIn}
use Rattle.zf_meaning.proofs.Gathering.{gather-begun, gather-more, gather-all, ranges-begun, ranges-more, ranges-all, drop-past}
use Rattle.zf_meaning.proofs.Operands.{power-told, both-seen, both-told, arrows-told, interval-told, product-told}
use Rattle.zf_meaning.proofs.Linking.{link-more, link-false, link-all, link-last, last-described, last-worked, chain-told}
use Rattle.zf_meaning.proofs.RowValues.{seen-rest}
use Rattle.zf_meaning.proofs.evaluate.+meaning.Goals as goal

pub operands::gather-loop-term-init : goal.operands::gather-loop-term-init
operands::gather-loop-term-init g t c = gather-begun (scope_of c.args.env.now (g.R.Row.values c.args.row.now) c.args.locals.now) c.args.terms.now
    c.args.terms.now c.in_ok-gathered.gathered.lack c.in_ok-gathered.gathered.values.items refl c.in_ok-gathered.ensures.lack c.in_ok-gathered.ensures.values

pub operands::gather-loop-term-preserved : goal.operands::gather-loop-term-preserved
operands::gather-loop-term-preserved g t c = gather-more (scope_of c.args.env.now (g.R.Row.values c.args.row.now) c.args.locals.now) c.args.terms.now
    c.loop-term.term-index c.term-item.result c.loop-term.gathered.lack c.add.new.self.lack c.loop-term.gathered.values.items c.add.new.self.values.items
    (found_outcome c.in_ok-found.found) c.loop-term-test.true c.term-item.is c.loop-term.invariant c.in_ok-found.ensures c.in_ok-add.ensures.0
    c.in_ok-add.ensures.1

pub operands::gather-returns : goal.operands::gather-returns
operands::gather-returns g t c =
    gather-all (scope_of c.args.env.now (g.R.Row.values c.args.row.now) c.args.locals.now) c.args.terms.now _ c.loop-term.gathered.lack
    c.loop-term.gathered.values.items (drop-past c.loop-term.term-index c.args.terms.now c.loop-term-test.false) c.loop-term.invariant

pub ranges::declared_sets-loop-range-init : goal.ranges::declared_sets-loop-range-init
ranges::declared_sets-loop-range-init g t c = ranges-begun (scope_of c.args.env.now (g.R.Row.values c.args.row.now) c.args.locals.now) c.args.ranges.now
    c.args.ranges.now _ (spread c.new.result.items) refl refl (ap spread c.new.ensures.items)

pub ranges::declared_sets-loop-range-preserved : goal.ranges::declared_sets-loop-range-preserved
ranges::declared_sets-loop-range-preserved g t c = ranges-more (scope_of c.args.env.now (g.R.Row.values c.args.row.now) c.args.locals.now) c.args.ranges.now
    c.loop-range.range-index c.range-item.result c.loop-range.declared.lack c.add.new.declared.lack (spread c.loop-range.declared.sets.items)
    (spread c.add.new.declared.sets.items) (found_outcome c.in_ok-found.found) c.loop-range-test.true c.range-item.is c.loop-range.invariant
    c.in_ok-found.ensures c.in_ok-add.ensures.0 c.in_ok-add.ensures.1

pub ranges::declared_sets-returns : goal.ranges::declared_sets-returns
ranges::declared_sets-returns g t c =
    ranges-all (scope_of c.args.env.now (g.R.Row.values c.args.row.now) c.args.locals.now) c.args.ranges.now _ c.loop-range.declared.lack
    (spread c.loop-range.declared.sets.items) (drop-past c.loop-range.range-index c.args.ranges.now c.loop-range-test.false) c.loop-range.invariant

pub chains::linked-loop-place-init : goal.chains::linked-loop-place-init
chains::linked-loop-place-init g t c = λ u h. h

pub chains::linked-loop-place-preserved : goal.chains::linked-loop-place-preserved
chains::linked-loop-place-preserved g t c =
    let row = g.R.Row.values c.args.row.now in
    let k = c.index-links-place.result in
    let told = subst (λ i. IsLink i k.relation (found_outcome c.loop-place.left) (found_outcome c.in_ok-right.right) c.link-told.result)
    (c.infinite_right-infinite.ensures row (seen c.args.locals.now)) c.link-told.ensures in
    link-more (scope_of c.args.env.now row c.args.locals.now) c.args.links.now c.loop-place.place k (found_outcome c.loop-place.left)
    (found_outcome c.in_ok-right.right) (found_outcome c.args.first) c.loop-place.truth c.link-told.result c.conjunction-truth.result
    c.loop-place-test.true c.index-links-place.is c.loop-place.invariant c.in_ok-right.ensures told c.conjunction-truth.ensures

pub chains::linked-returns : goal.chains::linked-returns
chains::linked-returns g t c =
    link-all (scope_of c.args.env.now (g.R.Row.values c.args.row.now) c.args.locals.now) c.args.links.now c.loop-place.place (found_outcome c.loop-place.left)
    (found_outcome c.args.first) c.loop-place.truth c.loop-place-test.false c.loop-place.invariant

pub chains::linked-returns-then-is_false : goal.chains::linked-returns-then-is_false
chains::linked-returns-then-is_false g t c =
    let row = g.R.Row.values c.args.row.now in
    let k = c.index-links-place.result in
    let told = subst (λ i. IsLink i k.relation (found_outcome c.loop-place.left) (found_outcome c.in_ok-right.right) c.link-told.result)
    (c.infinite_right-infinite.ensures row (seen c.args.locals.now)) c.link-told.ensures in
    link-false (scope_of c.args.env.now row c.args.locals.now) c.args.links.now c.loop-place.place k (found_outcome c.loop-place.left)
    (found_outcome c.in_ok-right.right) (found_outcome c.args.first) c.loop-place.truth c.link-told.result c.loop-place-test.true c.index-links-place.is
    c.loop-place.invariant c.in_ok-right.ensures told (c.is_false.ensures.0 c.if-is_false.true)

pub chains::linked-returns-then-place-links : goal.chains::linked-returns-then-place-links
chains::linked-returns-then-place-links g t c =
    let k = c.index-links-place.result in
    link-last (scope_of c.args.env.now (g.R.Row.values c.args.row.now) c.args.locals.now) c.args.links.now c.loop-place.place k
    (found_outcome c.loop-place.left) (found_outcome c.args.first) c.loop-place.truth c.in_ok-told.told c.conjunction.result c.loop-place-test.true
    c.index-links-place.is (omega arith) c.loop-place.invariant c.in_ok-told.ensures c.conjunction.ensures

pub chains::last_link-returns-then-is_finite_membership : goal.chains::last_link-returns-then-is_finite_membership
chains::last_link-returns-then-is_finite_membership g t c =
    let row = g.R.Row.values c.args.row.now in
    last-described (scope_of c.args.env.now (g.R.Row.values c.args.row.now) c.args.locals.now) c.args.relation (resolved_of c.args.right.now)
    (found_outcome c.args.left.now) c.in_ok-set.set c.infinite_right-infinite.result c.membership.result
    (c.infinite_right-infinite.ensures row (seen c.args.locals.now))
    (c.is_finite_membership.ensures c.if-is_finite_membership.true).1 c.in_ok-set.ensures c.membership.ensures

pub chains::last_link-returns : goal.chains::last_link-returns
chains::last_link-returns g t c =
    let row = g.R.Row.values c.args.row.now in
    last-worked (scope_of c.args.env.now (g.R.Row.values c.args.row.now) c.args.locals.now) c.args.relation (resolved_of c.args.right.now)
    (found_outcome c.args.left.now) (found_outcome c.in_ok-right.right) c.infinite_right-infinite.result c.link.result
    (c.infinite_right-infinite.ensures row (seen c.args.locals.now)) c.in_ok-right.ensures c.link.ensures

pub memberships::described-returns-in-Constant : goal.memberships::described-returns-in-Constant
memberships::described-returns-in-Constant g t c =
    let i = c.in-Constant in
    subst (λ d. Describes (HasOutcome (scope_of c.args.env.now (g.R.Row.values c.args.row.now) c.args.locals.now) d) c.described_constant.result)
    (sym (ap resolved_of i.is ∙ of-Constant i.field-0 i.constant)) c.described_constant.ensures

pub memberships::described-returns-in-Listed : goal.memberships::described-returns-in-Listed
memberships::described-returns-in-Listed g t c =
    let i = c.in-Listed in
    subst (λ d. IfOk c.many.result (Describes (HasOutcome (scope_of c.args.env.now (g.R.Row.values c.args.row.now) c.args.locals.now) d)))
    (ap (λ xs. tree.listed i.field-0 i.form (tree_views.terms (map resolved_of xs))) c.as_slice.ensures ∙ sym (ap resolved_of i.is ∙ of-Listed i.field-0 i.form i.terms))
    (c.many.ensures i.field-0)

pub memberships::described-returns-in-Unary : goal.memberships::described-returns-in-Unary
memberships::described-returns-in-Unary g t c =
    let i = c.in-Unary in
    subst (λ d. IfOk c.of_one.result (Describes (HasOutcome (scope_of c.args.env.now (g.R.Row.values c.args.row.now) c.args.locals.now) d)))
    (ap (λ x. tree.unary i.field-0 i.op (resolved_of x)) c.get-in-Unary.ensures ∙ sym (ap resolved_of i.is ∙ of-Unary i.field-0 i.op i.of))
    (c.of_one.ensures i.field-0)

pub memberships::described-returns-in_ok-outcome-in_default : goal.memberships::described-returns-in_ok-outcome-in_default
memberships::described-returns-in_ok-outcome-in_default g t c =
    let o = c.in_ok-outcome-in_default in
    plain-describes (HasOutcome (scope_of c.args.env.now (g.R.Row.values c.args.row.now) c.args.locals.now) (resolved_of c.args.term.now)) o.field-0 o.ensures

pub memberships::many-returns-in-Product : goal.memberships::many-returns-in-Product
memberships::many-returns-in-Product g t c =
    λ span. product-told (scope_of c.args.env.now (g.R.Row.values c.args.row.now) c.args.locals.now) span c.args.form
    (tree_views.terms (map resolved_of c.args.terms.now)) (several_of c.in_ok-gathered.gathered) c.product_of.result c.in-Product.is
    c.in_ok-gathered.ensures c.product_of.ensures

pub memberships::many-returns-in_ok-on_several-in_default : goal.memberships::many-returns-in_ok-on_several-in_default
memberships::many-returns-in_ok-on_several-in_default g t c =
    let o = c.in_ok-on_several-in_default in
    λ span. plain-describes (HasOutcome (scope_of c.args.env.now (g.R.Row.values c.args.row.now) c.args.locals.now)
    (tree.listed span c.args.form (tree_views.terms (map resolved_of c.args.terms.now)))) c.own.result
    (subst (HasOutcome (scope_of c.args.env.now (g.R.Row.values c.args.row.now) c.args.locals.now)
    (tree.listed span c.args.form (tree_views.terms (map resolved_of c.args.terms.now)))) (sym c.own.ensures) (
      several_of c.in_ok-gathered.gathered,
      c.in_ok-gathered.ensures,
      o.ensures,
    ))

pub memberships::of_both-returns-in-Generic : goal.memberships::of_both-returns-in-Generic
memberships::of_both-returns-in-Generic g t c =
    let i = c.in-Binary in
    let k = scope_of c.args.env.now (g.R.Row.values c.args.row.now) c.args.locals.now in
    let arrows = Arrows c.in-Generic.kind c.in_ok-copy.field-0 c.in_ok-copy-2.field-0 in
    subst (λ d. Describes (HasOutcome k d) arrows) (both-seen c.args.term.now i.field-0 i.op i.left i.right _ _ i.is c.get-left.ensures c.get-right.ensures)
    (both-told k i.field-0 i.op (resolved_of c.get-left.result.now) (resolved_of c.get-right.result.now) (found_outcome c.in_ok-x.x) (found_outcome c.in_ok-y.y)
    c.in-Some.v.now c.in-Some.w.now arrows c.in_ok-x.ensures c.in_ok-y.ensures (search rules) (search rules)
    (arrows-told i.op c.in-Generic.kind c.in-Some.v.now c.in-Some.w.now c.in_ok-copy.field-0 c.in_ok-copy-2.field-0 c.in-Generic.is c.in_ok-copy.ensures c.in_ok-copy-2.ensures))

pub memberships::of_both-returns-then-is_interval : goal.memberships::of_both-returns-then-is_interval
memberships::of_both-returns-then-is_interval g t c =
    let i = c.in-Binary in
    let k = scope_of c.args.env.now (g.R.Row.values c.args.row.now) c.args.locals.now in
    let interval = c.interval_between.result in
    subst (λ d. Describes (HasOutcome k d) interval) (both-seen c.args.term.now i.field-0 i.op i.left i.right _ _ i.is c.get-left.ensures c.get-right.ensures)
    (both-told k i.field-0 i.op (resolved_of c.get-left.result.now) (resolved_of c.get-right.result.now) (found_outcome c.in_ok-x.x) (found_outcome c.in_ok-y.y)
    c.in-Some.v.now c.in-Some.w.now interval c.in_ok-x.ensures c.in_ok-y.ensures (search rules) (search rules)
    (interval-told i.op c.in-Some.v.now c.in-Some.w.now interval (c.is_interval.ensures c.if-is_interval.true) c.interval_between.ensures))

pub memberships::of_both-returns : goal.memberships::of_both-returns
memberships::of_both-returns g t c =
    let i = c.in-Binary in
    let k = scope_of c.args.env.now (g.R.Row.values c.args.row.now) c.args.locals.now in
    let whole = tree.binary i.field-0 i.op (resolved_of c.get-left.result.now) (resolved_of c.get-right.result.now) in
    let told : HasOutcome k whole c.in_ok-on_both.field-0 = (found_outcome c.in_ok-x.x, found_outcome c.in_ok-y.y, c.in_ok-x.ensures, c.in_ok-y.ensures, c.in_ok-on_both.ensures) in
    plain-describes (HasOutcome k (resolved_of c.args.term.now)) c.own.result
    (subst (λ d. HasOutcome k d (found_outcome c.own.result)) (both-seen c.args.term.now i.field-0 i.op i.left i.right _ _ i.is c.get-left.ensures c.get-right.ensures) (subst (HasOutcome k whole) (sym c.own.ensures) told))

pub memberships::of_one-returns-then-is_power : goal.memberships::of_one-returns-then-is_power
memberships::of_one-returns-then-is_power g t c =
    λ span. power-told (scope_of c.args.env.now (g.R.Row.values c.args.row.now) c.args.locals.now) span c.args.op (resolved_of c.args.of.now)
    (found_outcome c.in_ok-operand.operand) c.power_of.result (c.is_power.ensures c.if-is_power.true) c.in_ok-operand.ensures c.power_of.ensures

pub memberships::of_one-returns : goal.memberships::of_one-returns
memberships::of_one-returns g t c =
    λ span. plain-describes (HasOutcome (scope_of c.args.env.now (g.R.Row.values c.args.row.now) c.args.locals.now) (tree.unary span c.args.op (resolved_of c.args.of.now))) c.own.result
    (subst (HasOutcome (scope_of c.args.env.now (g.R.Row.values c.args.row.now) c.args.locals.now) (tree.unary span c.args.op (resolved_of c.args.of.now)))
    (sym c.own.ensures) (found_outcome c.in_ok-operand.operand, c.in_ok-operand.ensures, c.in_ok-on_one.ensures))

pub binders::comprehension-returns : goal.binders::comprehension-returns
binders::comprehension-returns g t c =
    let i = c.in-Comprehension in
    let d = c.in_ok-declared.declared in
    let built = subst (λ xs. IsBuilt (several_by Nothing (spread xs)) (FilterIn (scope_of c.args.env.now (g.R.Row.values c.args.row.now) c.args.locals.now)
    (part_of i.field-2)) (TermIn (scope_of c.args.env.now (g.R.Row.values c.args.row.now) c.args.locals.now) (part_of i.field-3))
    c.in_ok-built_over-in-Nothing.field-0) c.deref.ensures.value (c.in_ok-built_over-in-Nothing.ensures i.field-0 i.ranges i.field-2 i.field-3 i.is) in
    comprehension-has (scope_of c.args.env.now (g.R.Row.values c.args.row.now) c.args.locals.now) c.args.term.now i.field-0 i.ranges c.as_slice.result.now i.field-2
    i.field-3 (declared_of d) (found_outcome c.own.result) i.is c.as_slice.ensures c.in_ok-declared.ensures
    (subst (λ o. IsBuilt (declared_of d) (FilterIn (scope_of c.args.env.now (g.R.Row.values c.args.row.now) c.args.locals.now) (part_of i.field-2))
    (TermIn (scope_of c.args.env.now (g.R.Row.values c.args.row.now) c.args.locals.now) (part_of i.field-3)) o) (sym c.own.ensures)
    (subst (λ k. IsBuilt (several_by k (spread d.sets.items)) (FilterIn (scope_of c.args.env.now (g.R.Row.values c.args.row.now) c.args.locals.now)
    (part_of i.field-2)) (TermIn (scope_of c.args.env.now (g.R.Row.values c.args.row.now) c.args.locals.now) (part_of i.field-3))
    c.in_ok-built_over-in-Nothing.field-0) (sym c.in-Nothing.is) built))

pub binders::comprehension-returns-in-Out : goal.binders::comprehension-returns-in-Out
binders::comprehension-returns-in-Out g t c =
    let i = c.in-Comprehension in
    let d = c.in_ok-declared.declared in
    comprehension-has (scope_of c.args.env.now (g.R.Row.values c.args.row.now) c.args.locals.now) c.args.term.now i.field-0 i.ranges c.as_slice.result.now i.field-2
    i.field-3 (declared_of d) _ i.is c.as_slice.ensures c.in_ok-declared.ensures
    (subst (λ k. IsBuilt (several_by k (spread d.sets.items)) (FilterIn (scope_of c.args.env.now (g.R.Row.values c.args.row.now) c.args.locals.now)
    (part_of i.field-2)) (TermIn (scope_of c.args.env.now (g.R.Row.values c.args.row.now) c.args.locals.now) (part_of i.field-3)) outcome.Out)
    (sym c.in-Out.is) refl)

pub binders::comprehension-returns-in-Undefined : goal.binders::comprehension-returns-in-Undefined
binders::comprehension-returns-in-Undefined g t c =
    let i = c.in-Comprehension in
    let d = c.in_ok-declared.declared in
    IfOk-weaker c.empty_set.result (λ o. IsEmptySet (found_outcome o)) (λ o. HasOutcome
    (scope_of c.args.env.now (g.R.Row.values c.args.row.now) c.args.locals.now) (resolved_of c.args.term.now) (found_outcome o))
    (λ o h. comprehension-has (scope_of c.args.env.now (g.R.Row.values c.args.row.now) c.args.locals.now) c.args.term.now i.field-0 i.ranges c.as_slice.result.now
    i.field-2 i.field-3 (declared_of d) (found_outcome o) i.is c.as_slice.ensures c.in_ok-declared.ensures
    (subst (λ k. IsBuilt (several_by k (spread d.sets.items)) (FilterIn (scope_of c.args.env.now (g.R.Row.values c.args.row.now) c.args.locals.now)
    (part_of i.field-2)) (TermIn (scope_of c.args.env.now (g.R.Row.values c.args.row.now) c.args.locals.now) (part_of i.field-3)) (found_outcome o))
    (sym c.in-Undefined.is) h)) c.empty_set.ensures

pub binders::member_outcome-returns-in_ok-value_of_row-in-None : goal.binders::member_outcome-returns-in_ok-value_of_row-in-None
binders::member_outcome-returns-in_ok-value_of_row-in-None g t c =
    subst (λ m. Builds (scope_of c.args.env.now (g.R.Row.values c.args.row.now) c.args.bound.now) (drop c.args.outside (seen c.args.bound.now)) (part_of m)
    (outcome.Is c.in_ok-value_of_row-in-None.field-0)) (sym c.in-None.is ∙ c.get.ensures)
    (ap outcome.Is (c.in_ok-value_of_row-in-None.ensures ∙ ap row_value (seen-rest c.args.outside c.args.bound.now)))

pub binders::quantified-returns-in-Out : goal.binders::quantified-returns-in-Out
binders::quantified-returns-in-Out g t c =
    let i = c.in-Quantified in
    let d = c.in_ok-declared.declared in
    quantified-told (scope_of c.args.env.now (g.R.Row.values c.args.row.now) c.args.locals.now) c.args.term.now i.quantifier i.field-1 i.ranges
    c.as_slice.result.now i.field-3 i.field-4 (declared_of d) _ i.is c.as_slice.ensures c.in_ok-declared.ensures
    (subst (λ k. IsQuantified i.quantifier (several_by k (spread d.sets.items))
    (ToldIn (scope_of c.args.env.now (g.R.Row.values c.args.row.now) c.args.locals.now) i.quantifier (part_of i.field-3) (resolved_of i.field-4)) Out)
    (sym c.in-Out.is) refl)

pub binders::quantified-returns-in-Undefined : goal.binders::quantified-returns-in-Undefined
binders::quantified-returns-in-Undefined g t c =
    let i = c.in-Quantified in
    let d = c.in_ok-declared.declared in
    let P = ToldIn (scope_of c.args.env.now (g.R.Row.values c.args.row.now) c.args.locals.now) i.quantifier (part_of i.field-3) (resolved_of i.field-4) in
    let tallied = subst (IsTallied P []) (sym c.none.ensures) (none-tallied P) in
    let told = subst (IsOver i.quantifier (λ vs. ⊥) P) (sym c.truth.ensures)
    (all-told i.quantifier (λ vs. ⊥) P [] c.none.result (is_settled i.quantifier c.none.result) refl (λ vs r. absurd r) (λ vs m. m) tallied) in
    quantified-told (scope_of c.args.env.now (g.R.Row.values c.args.row.now) c.args.locals.now) c.args.term.now i.quantifier i.field-1 i.ranges
    c.as_slice.result.now i.field-3 i.field-4 (declared_of d) c.truth.result i.is c.as_slice.ensures c.in_ok-declared.ensures
    (subst (λ k. IsQuantified i.quantifier (several_by k (spread d.sets.items)) P c.truth.result) (sym c.in-Undefined.is) told)

pub binders::quantified-returns : goal.binders::quantified-returns
binders::quantified-returns g t c =
    let i = c.in-Quantified in
    let d = c.in_ok-declared.declared in
    let P = ToldIn (scope_of c.args.env.now (g.R.Row.values c.args.row.now) c.args.locals.now) i.quantifier (part_of i.field-3) (resolved_of i.field-4) in
    IfOk-weaker c.over_rows.result (IsOver i.quantifier (λ vs. AreFrom vs (spread c.deref.result.now)) P)
    (IsTruth (scope_of c.args.env.now (g.R.Row.values c.args.row.now) c.args.locals.now) (resolved_of c.args.term.now))
    (λ u h. quantified-told (scope_of c.args.env.now (g.R.Row.values c.args.row.now) c.args.locals.now) c.args.term.now i.quantifier i.field-1 i.ranges
    c.as_slice.result.now i.field-3 i.field-4 (declared_of d) u i.is c.as_slice.ensures c.in_ok-declared.ensures
    (subst (λ k. IsQuantified i.quantifier (several_by k (spread d.sets.items)) P u) (sym c.in-Nothing.is)
    (subst (λ xs. IsOver i.quantifier (λ vs. AreFrom vs (spread xs)) P u) c.deref.ensures.value h)))
    (c.over_rows.ensures i.quantifier i.field-1 i.ranges i.field-3 i.field-4 i.is)

pub binders::told_at-returns-in-Some : goal.binders::told_at-returns-in-Some
binders::told_at-returns-in-Some g t c =
    λ q l rs p e is.
    let i = c.in-Quantified in
    let same = sym i.is ∙ is in
    let sq = same-quantifier i.quantifier q i.field-1 l i.field-2 rs i.constraint p i.body e same in
    let sp = same-constraint i.quantifier q i.field-1 l i.field-2 rs i.constraint p i.body e same in
    let told = told-by i.quantifier (λ a. IsConstraint (scope_of c.args.env.now (g.R.Row.values c.args.row.now) c.args.bound.now) (part_of i.constraint) a)
    (λ b. IsTruth (scope_of c.args.env.now (g.R.Row.values c.args.row.now) c.args.bound.now) (resolved_of e) b) c.in-Some.decided
    (subst (λ k. IsConnected k (λ a. IsConstraint (scope_of c.args.env.now (g.R.Row.values c.args.row.now) c.args.bound.now) (part_of i.constraint) a)
    (λ b. IsTruth (scope_of c.args.env.now (g.R.Row.values c.args.row.now) c.args.bound.now) (resolved_of e) b) c.in-Some.decided)
    c.connective_of-connective.ensures
    (decided-told c.connective_of-connective.result c.in_ok-p.p c.in-Some.decided
    (λ a. IsConstraint (scope_of c.args.env.now (g.R.Row.values c.args.row.now) c.args.bound.now) (part_of i.constraint) a)
    (λ b. IsTruth (scope_of c.args.env.now (g.R.Row.values c.args.row.now) c.args.bound.now) (resolved_of e) b) c.in_ok-p.ensures
    (sym c.in-Some.ensures))) in
    subst (λ z. IsTold z (λ a. IsConstraint (scope_of c.args.env.now (g.R.Row.values c.args.row.now) c.args.bound.now) (part_of p) a)
    (λ b. IsTruth (scope_of c.args.env.now (g.R.Row.values c.args.row.now) c.args.bound.now) (resolved_of e) b) c.in-Some.decided) sq
    (subst (λ z. IsTold i.quantifier (λ a. IsConstraint (scope_of c.args.env.now (g.R.Row.values c.args.row.now) c.args.bound.now) (part_of z) a)
    (λ b. IsTruth (scope_of c.args.env.now (g.R.Row.values c.args.row.now) c.args.bound.now) (resolved_of e) b) c.in-Some.decided) sp told)

pub chains::chain-returns : goal.chains::chain-returns
chains::chain-returns g t c =
    let i = c.in-Chain in
    chain-told (scope_of c.args.env.now (g.R.Row.values c.args.row.now) c.args.locals.now)
    (resolved_of c.args.term.now) i.field-0 i.first c.get.result.now i.links c.as_slice.result.now (found_outcome c.in_ok-first.first) c.linked.result
    (ap resolved_of i.is ∙ of-Chain i.field-0 i.first i.links) c.get.ensures c.as_slice.ensures c.in_ok-first.ensures c.linked.ensures

pub operands::binary-returns : goal.operands::binary-returns
operands::binary-returns g t c =
    let i = c.in-Binary in
    let k = scope_of c.args.env.now (g.R.Row.values c.args.row.now) c.args.locals.now in
    let told : HasOutcome k (tree.binary i.field-0 i.op (resolved_of c.get-left.result.now) (resolved_of c.get-right.result.now)) (found_outcome c.own.result) = search rules in
    subst (λ d. HasOutcome k d (found_outcome c.own.result)) (both-seen c.args.term.now i.field-0 i.op i.left i.right _ _ i.is c.get-left.ensures c.get-right.ensures) told

pub operands::connective-returns-in_default-op : goal.operands::connective-returns-in_default-op
operands::connective-returns-in_default-op g t c =
    let i = c.in-Binary in
    let k = scope_of c.args.env.now (g.R.Row.values c.args.row.now) c.args.locals.now in
    let told : IsTruth k (tree.binary i.field-0 i.op (resolved_of i.left) (resolved_of i.right)) False = search rules in
    subst (λ d. IsTruth k d False) (both-seen c.args.term.now i.field-0 i.op i.left i.right _ _ i.is refl refl) told

pub operands::connective-returns-in-Some : goal.operands::connective-returns-in-Some
operands::connective-returns-in-Some g t c =
    let i = c.in-Binary in
    let k = scope_of c.args.env.now (g.R.Row.values c.args.row.now) c.args.locals.now in
    let a = resolved_of c.get-left.result.now in
    let b = resolved_of c.get-right.result.now in
    let u = c.in-Some.decided in
    let told = decided-told c.in-Connective.connective c.in_ok-p.p u (λ p. IsTruth k a p) (λ q. IsTruth k b q) c.in_ok-p.ensures (sym c.in-Some.ensures) in
    subst (λ d. IsTruth k d u) (both-seen c.args.term.now i.field-0 i.op i.left i.right _ _ i.is c.get-left.ensures c.get-right.ensures)
    (subst (λ op. IsTruth k (tree.binary i.field-0 op a b) u) (sym c.in-Connective.is) told)

pub operands::connective-returns : goal.operands::connective-returns
operands::connective-returns g t c =
    let i = c.in-Binary in
    let k = scope_of c.args.env.now (g.R.Row.values c.args.row.now) c.args.locals.now in
    let a = resolved_of c.get-left.result.now in
    let b = resolved_of c.get-right.result.now in
    let con = c.in-Connective.connective in
    let u = c.connected.result in
    let both = connected-told con c.in_ok-p.p c.in_ok-q.q (λ p. IsTruth k a p) (λ q. IsTruth k b q) c.in_ok-p.ensures c.in_ok-q.ensures in
    let told = subst (IsConnected con (λ p. IsTruth k a p) (λ q. IsTruth k b q)) (sym c.connected.ensures) both in
    subst (λ d. IsTruth k d u) (both-seen c.args.term.now i.field-0 i.op i.left i.right _ _ i.is c.get-left.ensures c.get-right.ensures)
    (subst (λ op. IsTruth k (tree.binary i.field-0 op a b) u) (sym c.in-Connective.is) told)

pub outcome-returns-in-Listed : goal.outcome-returns-in-Listed
outcome-returns-in-Listed g t c =
    let i = c.in-Listed in
    subst (λ d. IfOk c.listed.result (λ o. HasOutcome (scope_of c.args.env.now (g.R.Row.values c.args.row.now) c.args.locals.now) d (found_outcome o)))
    (ap (λ xs. tree.listed i.field-0 i.form (tree_views.terms (map resolved_of xs))) c.as_slice.ensures ∙ sym (ap resolved_of i.is ∙ of-Listed i.field-0 i.form i.terms))
    (c.listed.ensures c.in-Listed.field-0)

pub outcome-returns-in-Unary : goal.outcome-returns-in-Unary
outcome-returns-in-Unary g t c =
    let i = c.in-Unary in
    subst (λ d. IfOk c.unary.result (λ o. HasOutcome (scope_of c.args.env.now (g.R.Row.values c.args.row.now) c.args.locals.now) d (found_outcome o)))
    (ap (λ x. tree.unary i.field-0 i.op (resolved_of x)) c.get-in-Unary.ensures ∙ sym (ap resolved_of i.is ∙ of-Unary i.field-0 i.op i.of))
    (c.unary.ensures c.in-Unary.field-0)

pub truth-returns-in-Unary : goal.truth-returns-in-Unary
truth-returns-in-Unary g t c =
    let i = c.in-Unary in
    subst (λ d. IfOk c.not.result (IsTruth (scope_of c.args.env.now (g.R.Row.values c.args.row.now) c.args.locals.now) d))
    (ap (λ x. tree.unary i.field-0 i.op (resolved_of x)) c.get-in-Unary.ensures ∙ sym (ap resolved_of i.is ∙ of-Unary i.field-0 i.op i.of))
    (c.not.ensures c.in-Unary.field-0)

pub binders::over_rows-walk-init : goal.binders::over_rows-walk-init
binders::over_rows-walk-init g t c =
    let k = scope_of c.args.env.now (g.R.Row.values c.args.row.now) c.args.locals.now in (
      [],
      walk-begun (NeutralIn c.args.term.now k) c.in-Some.rows (seen c.args.locals.now) (spread c.args.sets.now)
          (seen c.in_ok-lists_of.field-0.items) c.in_ok-lists_of.ensures.is c.in_ok-lists_of.ensures.ascending (rw c.in-Some.is at c.in_ok-rows.ensures),
      λ q n rs p e is. subst (IsTallied (ToldIn k q (part_of p) (resolved_of e)) []) (sym c.none-tally.ensures) (none-tallied (ToldIn k q (part_of p) (resolved_of e))),
    )

pub binders::over_rows-walk-preserved : goal.binders::over_rows-walk-preserved
binders::over_rows-walk-preserved g t c =
    let env = c.args.env.now in
    let values = g.R.Row.values c.args.row.now in
    let outside = seen c.args.locals.now in
    let ss = spread c.args.sets.now in
    let k = scope_of c.args.env.now (g.R.Row.values c.args.row.now) c.args.locals.now in
    let row = row_of c.walk.rows in
    let inv = c.walk.invariant in
    let wide : length (seen c.args.locals.now) + length (spread c.args.sets.now)
    ≡ c.frame_of-frame.result.whole = frame-bound c.in-Some.rows outside ss
    (seen c.in_ok-lists_of.field-0.items) c.frame_of-frame.result.whole c.in_ok-lists_of.ensures.is
    (rw c.in-Some.is at c.in_ok-rows.ensures) c.frame_of-frame.ensures.whole in
    let b = row-bound (NeutralIn c.args.term.now k) env values c.args.locals.now c.bound.result.now c.walk.rows ss inv.0 c.frame_of-frame.result c.bound.ensures
    c.frame_of-frame.ensures.outside wide inv.1 in
    let next = rw c.in-Some-2.is at (c.in_ok-pass.ensures outside inv.1.at) in (
      row ∷ inv.0,
      next-turn c.args.term.now k c.walk.rows c.pass.new.self outside ss inv.0 c.in_ok-met.met.passing inv.1 (c.in_ok-met.ensures.passed k row b) next,
      λ q l rs p e is. subst (IsTallied (ToldIn k q (part_of p) (resolved_of e)) (row ∷ inv.0)) (sym c.with-tally.ensures)
          (one-more (ToldIn k q (part_of p) (resolved_of e)) inv.0 c.walk.tally row c.in_ok-met.met.truth (one-told k q (part_of p) (resolved_of e))
          (walk-new (NeutralIn c.args.term.now k) c.walk.rows outside ss inv.0 inv.1) (c.in_ok-met.ensures.told k row b q l rs p e is) (inv.2 q l rs p e is)),
    )

pub binders::over_rows-walk-smaller : goal.binders::over_rows-walk-smaller
binders::over_rows-walk-smaller g t c =
    let outside = seen c.args.locals.now in
    fewer outside c.in_ok-met.met.passing c.walk.rows c.pass.new.self (rw c.in-Some-2.is at (c.in_ok-pass.ensures outside c.walk.invariant.1.at))

pub binders::over_rows-returns-in_default-2 : goal.binders::over_rows-returns-in_default-2
binders::over_rows-returns-in_default-2 g t c =
    λ q l rs p e is.
    let i = c.in-Quantified in
    let ss = spread c.args.sets.now in
    let k = scope_of c.args.env.now (g.R.Row.values c.args.row.now) c.args.locals.now in
    let sq = same-quantifier i.quantifier q i.field-1 l i.field-2 rs i.constraint p i.body e (sym i.is ∙ is) in
    let none = rw c.in_default-2.is at c.in_ok-rows.ensures in
    let tallied = subst (IsTallied (ToldIn k q (part_of p) (resolved_of e)) []) (sym c.none-tally.ensures) (none-tallied (ToldIn k q (part_of p) (resolved_of e))) in
    subst (IsOver q (λ vs. AreFrom vs ss) (ToldIn k q (part_of p) (resolved_of e))) (sym (c.truth.ensures ∙ ap (λ z. truth_by z c.none-tally.result) sq))
    (all-told q (λ vs. AreFrom vs ss) (ToldIn k q (part_of p) (resolved_of e)) [] c.none-tally.result (is_settled q c.none-tally.result) refl
    (no-row ss (seen c.in_ok-lists_of.field-0.items) c.in_ok-lists_of.ensures.is none) (none-from ss) tallied)

pub binders::over_rows-returns-then-is_settled : goal.binders::over_rows-returns-then-is_settled
binders::over_rows-returns-then-is_settled g t c =
    λ q l rs p e is.
    let env = c.args.env.now in
    let values = g.R.Row.values c.args.row.now in
    let outside = seen c.args.locals.now in
    let ss = spread c.args.sets.now in
    let k = scope_of c.args.env.now (g.R.Row.values c.args.row.now) c.args.locals.now in
    let row = row_of c.walk.rows in
    let inv = c.walk.invariant in
    let wide : length (seen c.args.locals.now) + length (spread c.args.sets.now)
    ≡ c.frame_of-frame.result.whole = frame-bound c.in-Some.rows outside ss
    (seen c.in_ok-lists_of.field-0.items) c.frame_of-frame.result.whole c.in_ok-lists_of.ensures.is
    (rw c.in-Some.is at c.in_ok-rows.ensures) c.frame_of-frame.ensures.whole in
    let b = row-bound (NeutralIn c.args.term.now k) env values c.args.locals.now c.bound.result.now c.walk.rows ss inv.0 c.frame_of-frame.result c.bound.ensures
    c.frame_of-frame.ensures.outside wide inv.1 in
    let i = c.in-Quantified in
    let sq = same-quantifier i.quantifier q i.field-1 l i.field-2 rs i.constraint p i.body e (sym i.is ∙ is) in
    let tallied : IsTallied (ToldIn k q (part_of p) (resolved_of e)) (row ∷ inv.0) c.with-tally.result = subst
    (IsTallied (ToldIn k q (part_of p) (resolved_of e)) (row ∷ inv.0)) (sym c.with-tally.ensures)
    (one-more (ToldIn k q (part_of p) (resolved_of e)) inv.0 c.walk.tally row c.in_ok-met.met.truth (one-told k q (part_of p) (resolved_of e))
    (walk-new (NeutralIn c.args.term.now k) c.walk.rows outside ss inv.0 inv.1) (c.in_ok-met.ensures.told k row b q l rs p e is) (inv.2 q l rs p e is)) in
    subst (IsOver q (λ vs. AreFrom vs ss) (ToldIn k q (part_of p) (resolved_of e))) (sym (c.truth-then-is_settled.ensures ∙ ap (λ z. truth_by z c.with-tally.result) sq))
    (settled-truth q (λ vs. AreFrom vs ss) (ToldIn k q (part_of p) (resolved_of e)) (row ∷ inv.0) c.with-tally.result
    (walk-done (NeutralIn c.args.term.now k) c.walk.rows outside ss inv.0 inv.1) tallied
    (ap (λ z. is_settled z c.with-tally.result) (sym sq) ∙ sym c.is_settled.ensures ∙ c.if-is_settled.true))

pub binders::over_rows-met_at-requires : goal.binders::over_rows-met_at-requires
binders::over_rows-met_at-requires g t c =
    let i = c.in-Quantified in
    let front : (q : Quantifier) (l : Span) (rs : List Range) (p : Option Resolved) (e : Resolved) → c.args.term.now ≡ v.Quantified q l rs p e
    → NeedsFront c.frame_of-frame.result c.front_of-front.result (part_of p) (resolved_of e) =
    λ q l rs p e is.
    subst (λ x. NeedsFront c.frame_of-frame.result c.front_of-front.result (part_of x) (resolved_of e)) (same-constraint i.quantifier q i.field-1 l i.field-2 rs i.constraint p i.body e (sym i.is ∙ is))
    (subst (λ x. NeedsFront c.frame_of-frame.result c.front_of-front.result (part_of i.constraint) (resolved_of x))
    (c.get.ensures ∙ same-body i.quantifier q i.field-1 l i.field-2 rs i.constraint p i.body e (sym i.is ∙ is)) c.front_of-front.ensures) in
    let pieces : All (IsPiece c.args.term.now c.frame_of-frame.result) c.deref.result.now = subst (All (IsPiece c.args.term.now c.frame_of-frame.result))
    (sym c.deref.ensures.value) c.in_ok-pieces.ensures in
    search (rules, pieces, front)

pub binders::over_rows-pass-requires : goal.binders::over_rows-pass-requires
binders::over_rows-pass-requires g t c = (seen c.args.locals.now, c.walk.invariant.1.at)

pub binders::over_rows-returns-in-None : goal.binders::over_rows-returns-in-None
binders::over_rows-returns-in-None g t c =
    λ q l rs p e is.
    let env = c.args.env.now in
    let values = g.R.Row.values c.args.row.now in
    let outside = seen c.args.locals.now in
    let ss = spread c.args.sets.now in
    let k = scope_of c.args.env.now (g.R.Row.values c.args.row.now) c.args.locals.now in
    let row = row_of c.walk.rows in
    let inv = c.walk.invariant in
    let wide : length (seen c.args.locals.now) + length (spread c.args.sets.now)
    ≡ c.frame_of-frame.result.whole = frame-bound c.in-Some.rows outside ss
    (seen c.in_ok-lists_of.field-0.items) c.frame_of-frame.result.whole c.in_ok-lists_of.ensures.is
    (rw c.in-Some.is at c.in_ok-rows.ensures) c.frame_of-frame.ensures.whole in
    let b = row-bound (NeutralIn c.args.term.now k) env values c.args.locals.now c.bound.result.now c.walk.rows ss inv.0 c.frame_of-frame.result c.bound.ensures
    c.frame_of-frame.ensures.outside wide inv.1 in
    let i = c.in-Quantified in
    let sq = same-quantifier i.quantifier q i.field-1 l i.field-2 rs i.constraint p i.body e (sym i.is ∙ is) in
    let tallied : IsTallied (ToldIn k q (part_of p) (resolved_of e)) (row ∷ inv.0) c.with-tally.result = subst
    (IsTallied (ToldIn k q (part_of p) (resolved_of e)) (row ∷ inv.0)) (sym c.with-tally.ensures)
    (one-more (ToldIn k q (part_of p) (resolved_of e)) inv.0 c.walk.tally row c.in_ok-met.met.truth (one-told k q (part_of p) (resolved_of e))
    (walk-new (NeutralIn c.args.term.now k) c.walk.rows outside ss inv.0 inv.1) (c.in_ok-met.ensures.told k row b q l rs p e is) (inv.2 q l rs p e is)) in
    let none = rw c.in-None.is at (c.in_ok-pass.ensures outside inv.1.at) in
    subst (IsOver q (λ vs. AreFrom vs ss) (ToldIn k q (part_of p) (resolved_of e))) (sym (c.truth-in-None.ensures ∙ ap (λ z. truth_by z c.with-tally.result) sq))
    (told-ended c.args.term.now q l rs p e k c.walk.rows outside ss inv.0 c.in_ok-met.met.passing c.with-tally.result is inv.1 (c.in_ok-met.ensures.passed k row b) none tallied)

pub binders::built_over-walk-init : goal.binders::built_over-walk-init
binders::built_over-walk-init g t c =
    let k = scope_of c.args.env.now (g.R.Row.values c.args.row.now) c.args.locals.now in (
      [],
      walk-begun (NeutralIn c.args.term.now k) c.in-Some.rows (seen c.args.locals.now) (spread c.args.sets.now)
          (seen c.in_ok-lists_of.field-0.items) c.in_ok-lists_of.ensures.is c.in_ok-lists_of.ensures.ascending (rw c.in-Some.is at c.in_ok-rows.ensures),
      λ n rs p e is. nothing (FilterIn k (part_of p)) (TermIn k (part_of e)) c.new-built.result.items c.new-built.ensures.items,
    )

pub binders::built_over-walk-preserved : goal.binders::built_over-walk-preserved
binders::built_over-walk-preserved g t c =
    let env = c.args.env.now in
    let values = g.R.Row.values c.args.row.now in
    let outside = seen c.args.locals.now in
    let ss = spread c.args.sets.now in
    let k = scope_of c.args.env.now (g.R.Row.values c.args.row.now) c.args.locals.now in
    let row = row_of c.walk.rows in
    let inv = c.walk.invariant in
    let wide : length (seen c.args.locals.now) + length (spread c.args.sets.now)
    ≡ c.frame_of-frame.result.whole = frame-bound c.in-Some.rows outside ss
    (seen c.in_ok-lists_of.field-0.items) c.frame_of-frame.result.whole c.in_ok-lists_of.ensures.is
    (rw c.in-Some.is at c.in_ok-rows.ensures) c.frame_of-frame.ensures.whole in
    let b = row-bound (NeutralIn c.args.term.now k) env values c.args.locals.now c.bound.result.now c.walk.rows ss inv.0 c.frame_of-frame.result c.bound.ensures
    c.frame_of-frame.ensures.outside wide inv.1 in
    let rest : drop c.frame_of-frame.result.outside (seen c.bound.result.now)
    ≡ row = subst (λ n. drop n (seen c.bound.result.now) ≡ row) (sym c.frame_of-frame.ensures.outside)
    (bound-row c.args.locals.now c.bound.result.now row (ap seen c.bound.ensures ∙ inv.1.at.1)) in
    let passed = rw c.in-Some-2.is at (c.in_ok-passing.ensures.passed k row b) in
    let next = rw c.in-Some-3.is at (c.in_ok-pass.ensures outside inv.1.at) in (
      row ∷ inv.0,
      next-turn c.args.term.now k c.walk.rows c.pass.new.self outside ss inv.0 c.in-Some-2.passing inv.1 passed next,
      λ l rs p e is. built-same (FilterIn k (part_of p)) (TermIn k (part_of e)) (row ∷ inv.0) c.built_at.new.built.items c.is_too_many.new.values.items c.in_ok-is_too_many.ensures.members
          (built-more (FilterIn k (part_of p)) (TermIn k (part_of e)) inv.0 c.walk.built.items c.built_at.new.built.items row (one-filter k (part_of p))
          (one-term k (part_of e)) (rw c.in-Some-2.is at (c.in_ok-passing.ensures.is k row b rest l rs p e is)) (inv.2 l rs p e is)),
    )

pub binders::built_over-walk-smaller : goal.binders::built_over-walk-smaller
binders::built_over-walk-smaller g t c =
    let outside = seen c.args.locals.now in
    fewer outside c.in-Some-2.passing c.walk.rows c.pass.new.self (rw c.in-Some-3.is at (c.in_ok-pass.ensures outside c.walk.invariant.1.at))

pub binders::built_over-built_at-requires : goal.binders::built_over-built_at-requires
binders::built_over-built_at-requires g t c =
    let pieces : All (IsPiece c.args.term.now c.frame_of-frame.result) c.deref.result.now = subst (All (IsPiece c.args.term.now c.frame_of-frame.result))
    (sym c.deref.ensures.value) c.in_ok-pieces.ensures in
    let outside : c.frame_of-frame.result.outside ≤ length c.bound.result.now = omega (
      arith,
      c.frame_of-frame.ensures.outside,
      outside-bound c.args.locals.now c.bound.result.now (row_of c.walk.rows) (ap seen c.bound.ensures ∙ c.walk.invariant.1.at.1),
    ) in
    search (rules, pieces, outside)

pub binders::built_over-pass-requires : goal.binders::built_over-pass-requires
binders::built_over-pass-requires g t c = (seen c.args.locals.now, c.walk.invariant.1.at)

pub binders::built_over-returns-in_default : goal.binders::built_over-returns-in_default
binders::built_over-returns-in_default g t c =
    λ n rs p e is.
    let ss = spread c.args.sets.now in
    let k = scope_of c.args.env.now (g.R.Row.values c.args.row.now) c.args.locals.now in
    let none = rw c.in_default.is at c.in_ok-rows.ensures in
    IfOk-weaker c.display.result (IsDisplay c.new-built.result.items) (IsBuiltOver (λ vs. AreFrom vs ss) (FilterIn k (part_of p)) (TermIn k (part_of e)))
    (λ o h. built-all (λ vs. AreFrom vs ss) (FilterIn k (part_of p)) (TermIn k (part_of e)) [] c.new-built.result.items o (one-filter k (part_of p))
    (λ vs r. inl (no-row ss (seen c.in_ok-lists_of.field-0.items) c.in_ok-lists_of.ensures.is none vs r)) (none-from ss)
    (nothing (FilterIn k (part_of p)) (TermIn k (part_of e)) c.new-built.result.items c.new-built.ensures.items) h) c.display.ensures

pub binders::met_at-returns-in-Some-clause-told : goal.binders::met_at-returns-in-Some-clause-told
binders::met_at-returns-in-Some-clause-told g t c =
    λ k vs b q l rs p e is.
    let i = c.in-Quantified in
    let sq = same-quantifier i.quantifier q i.field-1 l i.field-2 rs i.field-3 p i.field-4 e (sym i.is ∙ is) in
    let none : AreNeutral (resolved_of c.args.term.now) k vs c.in-Some.passing = subst (AreNeutralIf (resolved_of c.args.term.now) k vs) c.in-Some.is (c.in_ok-passing.ensures k vs b) in
    subst (ToldIn k q (part_of p) (resolved_of e) vs) (sym (c.neutral.ensures ∙ ap neutral sq)) (neutral-told c.args.term.now q l rs p e (within k vs) is none.here)

pub binders::met_at-returns-in-Some-clause-passed : goal.binders::met_at-returns-in-Some-clause-passed
binders::met_at-returns-in-Some-clause-passed g t c =
    λ k vs b.
    let none : AreNeutral (resolved_of c.args.term.now) k vs c.in-Some.passing = subst (AreNeutralIf (resolved_of c.args.term.now) k vs) c.in-Some.is (c.in_ok-passing.ensures k vs b) in
    none.passed

pub binders::met_at-returns-clause-told : goal.binders::met_at-returns-clause-told
binders::met_at-returns-clause-told g t c = λ k vs b q l rs p e is. told-here _ k vs q (part_of p) (resolved_of e) c.in_ok-truth.truth b.is (c.in_ok-truth.ensures q l rs p e is)

pub binders::met_at-returns-clause-passed : goal.binders::met_at-returns-clause-passed
binders::met_at-returns-clause-passed g t c =
    λ k vs b.
    let i = c.in-Quantified in
    passed-after c.args.term.now i.quantifier i.field-1 i.field-2 i.field-3 i.field-4 c.args.frame c.args.front _ k vs c.in_ok-truth.truth c.passing_after.result i.is b
    (c.requires.front i.quantifier i.field-1 i.field-2 i.field-3 i.field-4 i.is) (c.in_ok-truth.ensures i.quantifier i.field-1 i.field-2 i.field-3 i.field-4 i.is) c.passing_after.ensures

pub binders::refuted-passing_at-requires : goal.binders::refuted-passing_at-requires
binders::refuted-passing_at-requires g t c =
    let piece : IsPiece c.args.term.now c.args.frame c.piece-item.result = subst (IsPiece c.args.term.now c.args.frame) (sym c.piece-item.is)
    (c.requires c.loop-piece.piece-index c.piece-item.result c.loop-piece-test.true) in
    search (rules, piece)

pub binders::passing_at-truth-requires : goal.binders::passing_at-truth-requires
binders::passing_at-truth-requires g t c =
    let less : size-Resolved c.args.piece.now.term.now < size-Resolved c.args.term.now = c.requires.part.smaller in
    search (rules, less)

pub binders::passing_at-outcome-requires : goal.binders::passing_at-outcome-requires
binders::passing_at-outcome-requires g t c =
    let whole : IsPart c.args.term.now c.args.piece.now.term.now = c.requires.part in
    let wanted : IsWanted c.args.piece.now.term.now c.args.frame c.in-Some.wanted = subst (λ o. IfSome o (IsWanted c.args.piece.now.term.now c.args.frame)) c.in-Some.is c.requires.wanted in
    let less : size-Resolved c.in-Some.wanted.term.now < size-Resolved c.args.term.now = omega (arith, wanted.smaller, whole.smaller) in
    search (rules, less)

pub binders::passing_at-returns-in-Some : goal.binders::passing_at-returns-in-Some
binders::passing_at-returns-in-Some g t c =
    λ k vs b.
    let here = scope_of c.args.env.now (g.R.Row.values c.args.row.now) c.args.bound.now in
    let wanted : IsWanted c.args.piece.now.term.now c.args.frame c.in-Some.wanted = subst (λ o. IfSome o (IsWanted c.args.piece.now.term.now c.args.frame)) c.in-Some.is c.requires.wanted in
    neutral-other-if c.args.term.now c.args.frame c.args.piece.now.term.now c.in-Some.wanted here k vs
    (found_outcome c.in_ok-found.found) c.passing_by.result c.requires.part wanted b c.in_ok-found.ensures c.passing_by.ensures.other
    (c.passing_by.ensures.passes wanted.earlier.outside)

pub binders::passing_at-returns-then-is_false : goal.binders::passing_at-returns-then-is_false
binders::passing_at-returns-then-is_false g t c =
    λ k vs b.
    let here = scope_of c.args.env.now (g.R.Row.values c.args.row.now) c.args.bound.now in
    neutral-by c.args.term.now c.args.frame c.args.piece.now here k vs c.requires b
    (subst (IsTruth here (resolved_of c.args.piece.now.term.now)) (c.is_false.ensures.0 c.if-is_false.true) c.in_ok-told.ensures)

pub binders::built_at-returns-in-Some-clause-is : goal.binders::built_at-returns-in-Some-clause-is
binders::built_at-returns-in-Some-clause-is g t c =
    λ k vs b d l rs p e is.
    let none : AreNeutral (resolved_of c.args.term.now) k vs c.in-Some.passing = subst (AreNeutralIf (resolved_of c.args.term.now) k vs) c.in-Some.is (c.in_ok-passing.ensures k vs b) in
    inl (neutral-built c.args.term.now l rs p e (within k vs) is none.here, refl)

pub binders::built_at-returns-in-Some-clause-passed : goal.binders::built_at-returns-in-Some-clause-passed
binders::built_at-returns-in-Some-clause-passed g t c =
    λ k vs b.
    let none : AreNeutral (resolved_of c.args.term.now) k vs c.in-Some.passing = subst (AreNeutralIf (resolved_of c.args.term.now) k vs) c.in-Some.is (c.in_ok-passing.ensures k vs b) in
    none.passed

pub binders::built_at-returns-then-branch-clause-is : goal.binders::built_at-returns-then-branch-clause-is
binders::built_at-returns-then-branch-clause-is g t c = λ k vs b d l rs p e is. adds-here _ k vs _ (part_of p)
    (part_of e) c.args.built.now.items c.add_row.new.built.items c.in_ok-add_row.field-0 true b.is d c.if-branch.true (c.in_ok-add_row.ensures l rs p e is)

pub binders::built_at-returns-then-branch-clause-passed : goal.binders::built_at-returns-then-branch-clause-passed
binders::built_at-returns-then-branch-clause-passed g t c = λ k vs b. itself-passed (resolved_of c.args.term.now) c.args.frame _ k vs b

pub binders::built_at-returns-else-branch-clause-is : goal.binders::built_at-returns-else-branch-clause-is
binders::built_at-returns-else-branch-clause-is g t c = λ k vs b d l rs p e is. adds-here _ k vs _ (part_of p)
    (part_of e) c.args.built.now.items c.add_row.new.built.items c.in_ok-add_row.field-0 false b.is d c.if-branch.false (c.in_ok-add_row.ensures l rs p e is)

pub binders::built_over-returns-in_default-2 : goal.binders::built_over-returns-in_default-2
binders::built_over-returns-in_default-2 g t c =
    λ l rs p e is.
    let env = c.args.env.now in
    let values = g.R.Row.values c.args.row.now in
    let outside = seen c.args.locals.now in
    let ss = spread c.args.sets.now in
    let k = scope_of c.args.env.now (g.R.Row.values c.args.row.now) c.args.locals.now in
    let row = row_of c.walk.rows in
    let inv = c.walk.invariant in
    let wide : length (seen c.args.locals.now) + length (spread c.args.sets.now)
    ≡ c.frame_of-frame.result.whole = frame-bound c.in-Some.rows outside ss
    (seen c.in_ok-lists_of.field-0.items) c.frame_of-frame.result.whole c.in_ok-lists_of.ensures.is
    (rw c.in-Some.is at c.in_ok-rows.ensures) c.frame_of-frame.ensures.whole in
    let b = row-bound (NeutralIn c.args.term.now k) env values c.args.locals.now c.bound.result.now c.walk.rows ss inv.0 c.frame_of-frame.result c.bound.ensures
    c.frame_of-frame.ensures.outside wide inv.1 in
    let rest : drop c.frame_of-frame.result.outside (seen c.bound.result.now)
    ≡ row = subst (λ n. drop n (seen c.bound.result.now) ≡ row) (sym c.frame_of-frame.ensures.outside)
    (bound-row c.args.locals.now c.bound.result.now row (ap seen c.bound.ensures ∙ inv.1.at.1)) in
    built-out (λ vs. AreFrom vs ss) (FilterIn k (part_of p)) (TermIn k (part_of e)) c.walk.built.items c.built_at.new.built.items row
    (walk-row (NeutralIn c.args.term.now k) c.walk.rows outside ss inv.0 inv.1)
    (rw c.in_default-2.is at (c.in_ok-passing.ensures.is k row b rest l rs p e is))

pub binders::built_over-returns-then-branch : goal.binders::built_over-returns-then-branch
binders::built_over-returns-then-branch g t c =
    λ l rs p e is.
    let env = c.args.env.now in
    let values = g.R.Row.values c.args.row.now in
    let outside = seen c.args.locals.now in
    let ss = spread c.args.sets.now in
    let k = scope_of c.args.env.now (g.R.Row.values c.args.row.now) c.args.locals.now in
    let row = row_of c.walk.rows in
    let inv = c.walk.invariant in
    let wide : length (seen c.args.locals.now) + length (spread c.args.sets.now)
    ≡ c.frame_of-frame.result.whole = frame-bound c.in-Some.rows outside ss
    (seen c.in_ok-lists_of.field-0.items) c.frame_of-frame.result.whole c.in_ok-lists_of.ensures.is
    (rw c.in-Some.is at c.in_ok-rows.ensures) c.frame_of-frame.ensures.whole in
    let b = row-bound (NeutralIn c.args.term.now k) env values c.args.locals.now c.bound.result.now c.walk.rows ss inv.0 c.frame_of-frame.result c.bound.ensures
    c.frame_of-frame.ensures.outside wide inv.1 in
    let rest : drop c.frame_of-frame.result.outside (seen c.bound.result.now)
    ≡ row = subst (λ n. drop n (seen c.bound.result.now) ≡ row) (sym c.frame_of-frame.ensures.outside)
    (bound-row c.args.locals.now c.bound.result.now row (ap seen c.bound.ensures ∙ inv.1.at.1)) in
    built-too-many (λ vs. AreFrom vs ss) (FilterIn k (part_of p)) (TermIn k (part_of e)) (row ∷ inv.0) c.is_too_many.new.values.items
    (walk-done (NeutralIn c.args.term.now k) c.walk.rows outside ss inv.0 inv.1)
    (built-same (FilterIn k (part_of p)) (TermIn k (part_of e)) (row ∷ inv.0) c.built_at.new.built.items c.is_too_many.new.values.items c.in_ok-is_too_many.ensures.members
    (built-more (FilterIn k (part_of p)) (TermIn k (part_of e)) inv.0 c.walk.built.items c.built_at.new.built.items row (one-filter k (part_of p))
    (one-term k (part_of e)) (rw c.in-Some-2.is at (c.in_ok-passing.ensures.is k row b rest l rs p e is)) (inv.2 l rs p e is)))
    (out_told _ _ c.if-branch.true c.in_ok-is_too_many.ensures.told)

pub binders::built_over-returns-in-None : goal.binders::built_over-returns-in-None
binders::built_over-returns-in-None g t c =
    λ l rs p e is.
    let env = c.args.env.now in
    let values = g.R.Row.values c.args.row.now in
    let outside = seen c.args.locals.now in
    let ss = spread c.args.sets.now in
    let k = scope_of c.args.env.now (g.R.Row.values c.args.row.now) c.args.locals.now in
    let row = row_of c.walk.rows in
    let inv = c.walk.invariant in
    let wide : length (seen c.args.locals.now) + length (spread c.args.sets.now)
    ≡ c.frame_of-frame.result.whole = frame-bound c.in-Some.rows outside ss
    (seen c.in_ok-lists_of.field-0.items) c.frame_of-frame.result.whole c.in_ok-lists_of.ensures.is
    (rw c.in-Some.is at c.in_ok-rows.ensures) c.frame_of-frame.ensures.whole in
    let b = row-bound (NeutralIn c.args.term.now k) env values c.args.locals.now c.bound.result.now c.walk.rows ss inv.0 c.frame_of-frame.result c.bound.ensures
    c.frame_of-frame.ensures.outside wide inv.1 in
    let rest : drop c.frame_of-frame.result.outside (seen c.bound.result.now)
    ≡ row = subst (λ n. drop n (seen c.bound.result.now) ≡ row) (sym c.frame_of-frame.ensures.outside)
    (bound-row c.args.locals.now c.bound.result.now row (ap seen c.bound.ensures ∙ inv.1.at.1)) in
    let passed = rw c.in-Some-2.is at (c.in_ok-passing.ensures.passed k row b) in
    let none = rw c.in-None.is at (c.in_ok-pass.ensures outside inv.1.at) in
    let built = built-same (FilterIn k (part_of p)) (TermIn k (part_of e)) (row ∷ inv.0) c.built_at.new.built.items c.is_too_many.new.values.items c.in_ok-is_too_many.ensures.members
    (built-more (FilterIn k (part_of p)) (TermIn k (part_of e)) inv.0 c.walk.built.items c.built_at.new.built.items row (one-filter k (part_of p))
    (one-term k (part_of e)) (rw c.in-Some-2.is at (c.in_ok-passing.ensures.is k row b rest l rs p e is)) (inv.2 l rs p e is)) in
    IfOk-weaker c.display-in-None.result (IsDisplay c.is_too_many.new.values.items) (IsBuiltOver (λ vs. AreFrom vs ss) (FilterIn k (part_of p)) (TermIn k (part_of e)))
    (λ o h. built-ended c.args.term.now l rs p e k c.walk.rows outside ss inv.0 c.in-Some-2.passing c.is_too_many.new.values.items o is inv.1 passed none built h) c.display-in-None.ensures
