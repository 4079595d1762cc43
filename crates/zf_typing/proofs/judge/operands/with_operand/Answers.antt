use Rattle.zf_typing.proofs.Prelude.{◌∙◌, ap, inl, inr, refl, subst, sort_of, IsMadeOfOne}
use Rattle.zf_tree.specs.Trees as tree
use Rattle.zf_term.specs.{resolved_of, unary}
use Rattle.zf_term.proofs.ResolvedSeen as seen
use Rattle.zf_typing.proofs.Judging.{unary_taken}
use Rattle.zf_typing.proofs.judge.operands.with_operand.Goals as goal

pub unreachable-requires : goal.unreachable-requires
unfolding IsMadeOfOne
unreachable-requires c =
    let x = sort_of c.args.operand.sort in
    let some = unary_taken c.args.op x c.requires in
    subst (λ o. IsMadeOfOne c.args.op x o) c.in_default.is c.in_ok-sort.ensures some.0 some.1

pub returns : goal.returns
unfolding IsMadeOfOne
returns c = λ s e h.
    let l = c.args.place.span in
    let op = c.args.op in
    let x = sort_of c.args.operand.sort in
    let z = sort_of c.in-Some.sort in
    let takes = subst (λ o. IsMadeOfOne op x o) c.in-Some.is c.in_ok-sort.ensures in
    c.made.ensures s (tree.unary l op e) (λ small. (x, h.is_of, takes, small)) (λ large. inr (inl (x, z, h.is_of, takes, large, refl, refl)))
    (seen.of-Unary l op c.in_ok-new.field-0 ∙ ap (unary l op) (ap resolved_of c.in_ok-new.ensures ∙ h.term)) refl
