use Rattle.zf_typing.proofs.Prelude.{◌∙◌, ◌≡◌, ap, inl, inr, map, refl, tree_of, trees, Display, type_of, types, DiffersAt}
use Rattle.zf_tree.specs.Trees as tree
use Rattle.zf_term.specs.{listed, resolved_of, terms}
use Rattle.zf_term.proofs.ResolvedSeen as seen
use Rattle.zf_typing.proofs.Judging.{from_offence}
use Rattle.zf_typing.proofs.Members.{list_differs}
use Rattle.zf_typing.proofs.judge.lists.with_members.Goals as goal

pub returns-in_err-ztype : goal.returns-in_err-ztype
returns-in_err-ztype c = λ s h kept.
    let l = c.args.place.span in
    let form = c.args.form in
    let es = map tree_of c.args.terms.now in
    let us = types (map type_of c.args.members.types) in
    from_offence s c.args.place.need (tree.listed l form (trees es)) c.in_err-ztype.field-0.0 (λ k m. (form ≡ Display) × DiffersAt l es us k m)
    c.from_residual.result
    (λ k m d. inr (inl (list_differs form s l es us k m h d))) c.in_err-ztype.ensures.wrong c.from_residual.ensures

pub returns : goal.returns
returns c = λ s h kept.
    let l = c.args.place.span in
    let form = c.args.form in
    let es = trees (map tree_of c.args.terms.now) in
    let us = types (map type_of c.args.members.types) in
    let u = type_of c.in_ok-ztype.ztype in
    let makes = c.in_ok-ztype.ensures.ok in
    c.made.ensures s (tree.listed l form es) (λ small. (us, u, h, makes, small, refl)) (λ large. inr (inr (inl (us, u, h, makes, large, refl, refl))))
    (seen.of-Listed l form c.in_ok-new.field-0 ∙ ap (λ ts. listed l form (terms (map resolved_of ts))) c.in_ok-new.ensures ∙ ap (listed l form) kept) refl
