use Rattle.zf_typing.proofs.Prelude.{◌∙◌, ◌≡◌, ap, arith, map, sym, subst, true≢false, span_of, tree_of, power, type_of, types, mismatch, no_members, Offence, DiffersAt, typed, Span}
use Rattle.zf_typing.proofs.Judging.{told}
use Rattle.zf_typing.proofs.Members.{none_first, differs_at, first_among, all_same}
use Rattle.zf_typing.proofs.judge.lists.set_of.Goals as goal

pub returns-in_default : goal.returns-in_default
returns-in_default c =
    let P : Offence → Span → Type 0 = λ o m. DiffersAt c.args.span (map tree_of c.args.terms.now) (types (map type_of c.args.types.now)) o m in
    record {
      ok = tt;
      wrong = told c.refused.result no_members c.args.span P c.refused.ensures (none_first c.args.types.now c.args.terms.now c.args.span c.in_default.ensures.value c.requires);
    }

pub returns-then-not-same : goal.returns-then-not-same
returns-then-not-same c =
    let P : Offence → Span → Type 0 = λ o m. DiffersAt c.args.span (map tree_of c.args.terms.now) (types (map type_of c.args.types.now)) o m in
    let o = mismatch (typed (type_of c.in-Some.first.now)) (typed (type_of c.index-types-place.result)) in
    let same = ap (λ t. mismatch (typed (type_of t)) (typed (type_of c.in_ok-share-2.field-0))) c.in_ok-share.ensures
    ∙ ap (λ t. mismatch (typed (type_of c.in-Some.first.now)) (typed (type_of t))) c.in_ok-share-2.ensures in
    let other : type_of c.in-Some.first.now ≡ type_of c.index-types-place.result → ⊥ = λ e. true≢false (sym (c.same.ensures.1 e) ∙ c.if-not-same.true) in
    let at = differs_at c.args.types.now c.args.terms.now c.in-Some.first.now c.args.span c.loop-place.place c.index-types-place.result
    c.index-terms-place.result c.in-Some.ensures.value (omega (arith, c.loop-place.auto.place))
    (omega arith) c.requires c.index-types-place.is c.index-terms-place.is other in
    record {
      ok = tt;
      wrong = told c.refused-then-not-same.result _ c.span-span.result P c.refused-then-not-same.ensures
          (subst (λ k. P k c.span-span.result) (sym same) (subst (λ m. P o m)
          (ap (λ t. span_of (tree_of t)) (sym c.get.ensures) ∙ sym c.span-span.ensures) at));
    }

pub returns : goal.returns
returns c = record {
  ok = (
    type_of c.in-Some.first.now,
    all_same c.args.types.now c.in-Some.first.now (first_among c.args.types.now c.in-Some.first.now c.in-Some.ensures.value)
        (λ i m. c.loop-place.invariant i (omega (arith, m))),
    c.in_ok-set_type.ensures ∙ ap (λ t. power (type_of t)) c.in_ok-share-3.ensures,
  );
  wrong = tt;
}
