use Rattle.zf_outcome.proofs.Prelude.{◌∙◌, ap, subst, sym, IsDescribed, IsTruthIn, found_outcome}
use Rattle.zf_value.specs.declared.value.Outcome.TheVariants as outcome
use Rattle.zf_value.specs.declared.value.Truth.TheVariants as truth
use Rattle.zf_outcome.proofs.Tests.{not_out, out-in, undefined-unbuilt, lost-unbuilt, value-unbuilt}
use Rattle.zf_outcome.proofs.described.in_unbuilt.Goals as goal

pub returns-then-is_out : goal.returns-then-is_out
returns-then-is_out c = out-in (IsDescribed c.args.set.now) c.args.relation (found_outcome c.args.x.now) (c.is_out.ensures.out.0 c.if-is_out.true)

pub returns-in-Out : goal.returns-in-Out
returns-in-Out c =
    subst (λ x. IsTruthIn (IsDescribed c.args.set.now) c.args.relation x truth.Out) (sym (ap found_outcome c.in-Out.is))
    (lost-unbuilt c.args.set.now c.args.relation c.requires.unbuilt (not_out _ _ c.is_out.ensures.within c.if-is_out.false))

pub returns-in-Undefined : goal.returns-in-Undefined
returns-in-Undefined c =
    subst (λ x. IsTruthIn (IsDescribed c.args.set.now) c.args.relation x truth.False) (sym (ap found_outcome c.in-Undefined.is))
    (undefined-unbuilt c.args.set.now c.args.relation c.requires.unbuilt (not_out _ _ c.is_out.ensures.within c.if-is_out.false))

pub returns-in-Is : goal.returns-in-Is
returns-in-Is c =
    let told = value-unbuilt c.args.set.now c.args.relation c.get.result.now c.has.result c.requires.relation c.requires.unbuilt
    (not_out _ _ c.is_out.ensures.within c.if-is_out.false) c.has.ensures in
    subst (λ x. IsTruthIn (IsDescribed c.args.set.now) c.args.relation x c.told.result) (ap outcome.Is c.get.ensures ∙ sym (ap found_outcome c.in-Is.is))
    (subst (IsTruthIn (IsDescribed c.args.set.now) c.args.relation (outcome.Is c.get.result.now)) (sym c.told.ensures) told)

pub has-requires : goal.has-requires
has-requires c = not_out _ _ c.is_out.ensures.within c.if-is_out.false
