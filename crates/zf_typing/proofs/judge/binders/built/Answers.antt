use Rattle.zf_typing.proofs.Prelude.{◌∙◌, ◌≡◌, ap, inl, inr, map, refl, subst, sym, IfOk, range_of, ranges, IsSmall, power, type_of, JudgesPart, PartOffends, typed, with_variables, row_type}
use Rattle.zf_tree.specs.Trees as tree
use Rattle.zf_tree.specs.declared.operator.Need.TheVariants as need
use Rattle.zf_typing.proofs.Judging.{from_offence}
use Rattle.zf_typing.proofs.Parts.{part_fault, part_of_judged, part_constrains, comprehension_kept}
use Rattle.zf_typing.proofs.judge.binders.built.Goals as goal

pub returns-in_err-filter : goal.returns-in_err-filter
returns-in_err-filter c = λ s ds vs p e binds sets hp he hr.
    let x = c.in_err-filter.field-0.0 in
    let inside = with_variables s vs in
    from_offence s c.args.place.need (tree.comprehension c.args.place.span ds p e) x (λ k m. PartOffends inside need.Predicate p k m) c.from_residual.result
    (λ k m o. inr (inr (inl (vs, binds, inl o))))
    (part_fault inside need.Predicate p x (subst (λ r. JudgesPart inside need.Predicate p r) c.in_err-filter.was hp)) c.from_residual.ensures

pub returns-in_err-member : goal.returns-in_err-member
returns-in_err-member c = λ s ds vs p e binds sets hp he hr.
    let x = c.in_err-member.field-0.0 in
    let inside = with_variables s vs in
    let residual = c.from_residual-in_err-member in
    from_offence s c.args.place.need (tree.comprehension c.args.place.span ds p e) x (λ k m. PartOffends inside need.Expression e k m) residual.result
    (λ k m o. inr (inr (inl (vs, binds, inr (inl o)))))
    (part_fault inside need.Expression e x (subst (λ r. JudgesPart inside need.Expression e r) c.in_err-member.was he)) residual.ensures

pub returns : goal.returns
returns c = λ s ds vs p e binds sets hp he hr.
    let l = c.args.place.span in
    let inside = with_variables s vs in
    let filter = part_of_judged inside need.Predicate p c.in_ok-filter.filter (subst (λ r. JudgesPart inside need.Predicate p r) c.in_ok-filter.was hp) in
    let member = part_of_judged inside need.Expression e c.in_ok-member.member (subst (λ r. JudgesPart inside need.Expression e r) c.in_ok-member.was he) in
    let row = subst (λ r. IfOk r (λ t. type_of t ≡ row_type vs)) c.in_ok-rows.was hr in
    let builds = c.in_ok-element.ensures inside vs e member row in
    let u = type_of c.in_ok-element.element in
    let set : type_of c.in_ok-set.set ≡ power u = c.in_ok-set.ensures in
    let kept = ap (λ rs. ranges (map range_of rs)) c.in_ok-ranges.ensures ∙ sets in
    c.made.ensures s (tree.comprehension l ds p e)
    (λ small. (vs, u, binds.0, binds.1, part_constrains inside p c.in_ok-filter.filter filter, builds, subst IsSmall set small, ap typed set))
    (λ large. inr (inr (inl (vs, binds, inr (inr (u, builds, (λ small. large (subst IsSmall (sym set) small)), refl, refl))))))
    (comprehension_kept s ds vs binds.1 c.in_ok-ranges.ranges kept l p e c.in_ok-condition.condition c.in_ok-term.term
    (c.in_ok-condition.ensures inside need.Predicate p filter) (c.in_ok-term.ensures inside need.Expression e member)) refl
