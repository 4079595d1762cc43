use Rattle.zf_typing.proofs.Prelude.{◌∙◌, ◌≡◌, ap, inl, inr, refl, subst, rule_of, Disagreement, Offends, resolved, sort_of, IsMade}
use Rattle.zf_tree.specs.Trees as tree
use Rattle.zf_term.specs.{binary, resolved_of}
use Rattle.zf_term.proofs.ResolvedSeen as seen
use Rattle.zf_typing.proofs.Judging.{judges_err, if_fault}
use Rattle.zf_typing.proofs.judge.operands.with_operands.Goals as goal

pub returns-in_default : goal.returns-in_default
unfolding IsMade
returns-in_default c = λ s a b g h span.
    let whole = tree.binary c.args.place.span c.args.op a b in
    let x = sort_of c.args.left.sort in
    let y = sort_of c.args.right.sort in
    let rule = c.rule-rule.result in
    let none = subst (λ o. IsMade (rule_of c.args.op) x y o) c.in_default.is
    (subst (λ u. IsMade u x y c.in_ok-sort.field-0) c.rule-rule.ensures c.in_ok-sort.ensures) in
    judges_err s c.args.place.need whole c.disagreeing.result
    (if_fault c.disagreeing.result (λ o m. Disagreement rule x y o × (m ≡ c.args.span)) (λ o m. Offends s c.args.place.need whole o m)
    (λ o m d. inr (inr (inl (inl (x, y, g.is_of, h.is_of, g.met, h.met, none, subst (λ u. Disagreement u x y o) c.rule-rule.ensures d.0, d.1 ∙ span)))))
    c.disagreeing.ensures)

pub returns : goal.returns
unfolding IsMade
returns c = λ s a b g h span.
    let l = c.args.place.span in
    let op = c.args.op in
    let x = sort_of c.args.left.sort in
    let y = sort_of c.args.right.sort in
    let z = sort_of c.in-Some.sort in
    let takes = subst (λ o. IsMade (rule_of op) x y o) c.in-Some.is
    (subst (λ u. IsMade u x y c.in_ok-sort.field-0) c.rule-rule.ensures c.in_ok-sort.ensures) in
    let first = ap resolved_of c.in_ok-left.ensures ∙ g.term in
    let second = ap resolved_of c.in_ok-right.ensures ∙ h.term in
    c.made.ensures s (tree.binary l op a b) (λ small. (x, y, g.is_of, h.is_of, takes, small)) (λ large. inr (inr (inl (inr (x, y, z, g.is_of, h.is_of, takes, large, refl, refl)))))
    (seen.of-Binary l op c.in_ok-left.left c.in_ok-right.right ∙ ap (λ t. binary l op t (resolved_of c.in_ok-right.right)) first ∙ ap (binary l op (resolved s a)) second) refl
