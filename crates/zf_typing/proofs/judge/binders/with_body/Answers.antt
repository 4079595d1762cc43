use Rattle.zf_typing.proofs.Prelude.{◌∙◌, ap, inl, inr, map, refl, subst, range_of, ranges, resolved_of, Judges, JudgesPart, Offends, PartOffends, with_variables, IsOf}
use Rattle.zf_tree.specs.Trees as tree
use Rattle.zf_tree.specs.declared.operator.Need.TheVariants as need
use Rattle.zf_typing.proofs.Judging.{from_offence, fault_of, judged_of}
use Rattle.zf_typing.proofs.Parts.{part_fault, part_of_judged, part_constrains, quantified_kept}
use Rattle.zf_typing.proofs.judge.binders.with_body.Goals as goal

pub returns-in_err-constraint : goal.returns-in_err-constraint
returns-in_err-constraint c = λ s ds vs p e binds sets hp hb.
    let x = c.in_err-constraint.field-0.0 in
    let inside = with_variables s vs in
    let whole = tree.quantified c.args.place.span c.args.quantifier ds p e in
    from_offence s c.args.place.need whole x (λ k m. PartOffends inside need.Predicate p k m) c.from_residual.result
    (λ k m o. inr (inr (inl (vs, binds, inl o))))
    (part_fault inside need.Predicate p x (subst (λ r. JudgesPart inside need.Predicate p r) c.in_err-constraint.was hp)) c.from_residual.ensures

pub returns-in_err-body : goal.returns-in_err-body
returns-in_err-body c = λ s ds vs p e binds sets hp hb.
    let x = c.in_err-body.field-0.0 in
    let inside = with_variables s vs in
    let whole = tree.quantified c.args.place.span c.args.quantifier ds p e in
    let residual = c.from_residual-in_err-body in
    from_offence s c.args.place.need whole x (λ k m. Offends inside need.Predicate e k m) residual.result (λ k m o. inr (inr (inl (vs, binds, inr o))))
    (fault_of inside need.Predicate e x (subst (λ r. Judges inside need.Predicate e r) c.in_err-body.was hb)) residual.ensures

pub returns : goal.returns
returns c = λ s ds vs p e binds sets hp hb.
    let l = c.args.place.span in
    let q = c.args.quantifier in
    let inside = with_variables s vs in
    let part = part_of_judged inside need.Predicate p c.in_ok-constraint.constraint (subst (λ r. JudgesPart inside need.Predicate p r) c.in_ok-constraint.was hp) in
    let body = judged_of inside need.Predicate e c.in_ok-body.body (subst (λ r. Judges inside need.Predicate e r) c.in_ok-body.was hb) in
    let kept = ap (λ rs. ranges (map range_of rs)) c.in_ok-ranges.ensures ∙ sets in
    c.placed.ensures s (tree.quantified l q ds p e)
    (vs, binds.0, binds.1, part_constrains inside p c.in_ok-constraint.constraint part, subst (λ z. IsOf inside e z) body.met body.is_of, refl)
    (quantified_kept s ds vs binds.1 c.in_ok-ranges.ranges kept l q p e c.in_ok-condition.condition c.in_ok-predicate.predicate
    (c.in_ok-condition.ensures inside need.Predicate p part) (ap resolved_of c.in_ok-predicate.ensures ∙ body.term)) refl
