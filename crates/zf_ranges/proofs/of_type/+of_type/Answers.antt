-- Which values are of a type.
use Rattle.zf_ranges.proofs.Prelude.{◌<◌, arith, length, both_ways, type_of, types, environment_of, IsOfType}
use Rattle.zf_ranges.proofs.Typed.{never, set_at, tuple_at, as_many, every_next, every_not, fit_next, fit_not}
use Rattle.zf_ranges.proofs.of_type.+of_type.Goals as goal

pub are_all_of-returns-then-not-is_of_type : goal.are_all_of-returns-then-not-is_of_type
are_all_of-returns-then-not-is_of_type t c =
    let told = c.is_of_type.ensures in
    never _ (λ all. every_not (λ z. IsOfType (environment_of c.args.env.now) (type_of c.args.ztype.now) z) c.args.values.now c.loop-value.value-index
    c.value-item.result c.value-item.is c.loop-value-test.true
    (λ p. both_ways c.is_of_type.result c.if-not-is_of_type.true (told.1 p)) (c.loop-value.invariant) all.1)

pub are_all_of-loop-value-preserved : goal.are_all_of-loop-value-preserved
are_all_of-loop-value-preserved t c =
    let told = c.is_of_type.ensures in
    every_next (λ z. IsOfType (environment_of c.args.env.now) (type_of c.args.ztype.now) z) c.args.values.now c.loop-value.value-index c.value-item.result
    c.value-item.is c.loop-value-test.true (told.0 c.if-not-is_of_type.false) (c.loop-value.invariant)

pub are_each_of-returns-then-values-ztypes : goal.are_each_of-returns-then-values-ztypes
are_each_of-returns-then-values-ztypes t c = never _ (λ all. c.if-values-ztypes.true (as_many (environment_of c.args.env.now) c.args.ztypes.now c.args.values.now all))

pub are_each_of-returns-then-not-is_of_type : goal.are_each_of-returns-then-not-is_of_type
are_each_of-returns-then-not-is_of_type t c =
    let inside : c.loop-place.place < length c.args.ztypes.now = omega arith in
    let told = c.is_of_type.ensures in
    never _ (λ all. fit_not (environment_of c.args.env.now) c.args.ztypes.now c.args.values.now c.loop-place.place c.index-ztypes-place.result
    c.index-values-place.result c.index-ztypes-place.is c.index-values-place.is inside c.loop-place-test.true
    (λ p. both_ways c.is_of_type.result c.if-not-is_of_type.true (told.1 p)) (c.loop-place.invariant) all)

pub are_each_of-loop-place-preserved : goal.are_each_of-loop-place-preserved
are_each_of-loop-place-preserved t c =
    let inside : c.loop-place.place < length c.args.ztypes.now = omega arith in
    let told = c.is_of_type.ensures in
    fit_next (environment_of c.args.env.now) c.args.ztypes.now c.args.values.now c.loop-place.place c.index-ztypes-place.result c.index-values-place.result
    c.index-ztypes-place.is c.index-values-place.is inside c.loop-place-test.true (told.0 c.if-not-is_of_type.false) (c.loop-place.invariant)

pub is_set_of-returns-in-Some : goal.is_set_of-returns-in-Some
is_set_of-returns-in-Some t c =
    set_at (environment_of c.args.env.now) (type_of c.args.ztype.now) c.in-Some.members.now c.args.value.now c.are_all_of.result c.in-Some.ensures.is c.in-Some.ensures.ascending c.are_all_of.ensures

pub is_tuple_of-returns-in-Some : goal.is_tuple_of-returns-in-Some
is_tuple_of-returns-in-Some t c =
    tuple_at (environment_of c.args.env.now) (types _) c.in-Some.parts.now c.args.value.now c.are_each_of.result c.in-Some.ensures.is c.are_each_of.ensures
