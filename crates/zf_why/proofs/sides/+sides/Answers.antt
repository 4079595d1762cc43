use Rattle.zf_why.proofs.Prelude.{◌++◌, ◌∙◌, ◌≡◌, ap, List, map, subst, sym, Batch, IfOk, IfOk-weaker, numbering}
use Rattle.zf_why.proofs.Splitting.{AreAt, of_batches, of_conjuncts, of_either_sides, of_further, of_member, of_term, of_unsplit, of_whole}
use Rattle.zf_why.specs.{moved_side, side_in, split_of}
use Rattle.zf_tree.specs.declared.span.Span.{Span}
use Rattle.zf_why.specs.declared.sides.Disjunct.{Disjunct}
use Rattle.zf_why.proofs.sides.+sides.Goals as goal

pub sides_of-returns-in-Term : goal.sides_of-returns-in-Term
sides_of-returns-in-Term t c = of_whole _ _ _ (ap split_of c.in-Term.is ∙ of_term c.in-Term.field-0 c.in-Term.field-1) (ap (map side_in) c.new.ensures)

pub sides_of-returns-in-Member : goal.sides_of-returns-in-Member
sides_of-returns-in-Member t c =
    of_whole _ _ _ (ap split_of c.in-Member.is ∙ of_member c.in-Member.field-0 c.in-Member.field-1 c.in-Member.field-2) (ap (map side_in) c.new-in-Member.ensures)

pub sides_of-returns-in_ok-append-in-Either : goal.sides_of-returns-in_ok-append-in-Either
sides_of-returns-in_ok-append-in-Either t c =
    let xs = c.in_ok-sides-in-Either.sides in
    let ys = c.in_ok-further-in-Either.further in
    let s = c.in-Either.at in
    let one = (λ (sides : List Disjunct) (l : Span) (bs ds : List Batch) (is : bs ≡ ds) (h : AreAt l bs sides). subst (λ (es : List Batch). AreAt l es sides) is h) in
    let seen : c.as_slice-in-Either-2.result.now ≡ xs ++ ys = c.as_slice-in-Either-2.ensures ∙ c.in_ok-append-in-Either.ensures.ok in
    IfOk-weaker c.moved_sides.result _ _
    (λ sides is. of_either_sides s c.in-Either.left c.in-Either.right c.in-Either.places c.args.conjunct.now xs ys
    sides c.in-Either.is (one xs s.left _ _ (c.as_slice.ensures ∙ c.get.ensures) c.in_ok-sides-in-Either.ensures)
    (one ys s.right _ _ (c.as_slice-in-Either.ensures ∙ c.get-in-Either.ensures) c.in_ok-further-in-Either.ensures)
    (is ∙ ap (λ (zs : List Disjunct). map (moved_side (numbering c.in-Either.places)) (map side_in zs)) seen))
    c.moved_sides.ensures

pub sides_at-returns-then-batches-ne1 : goal.sides_at-returns-then-batches-ne1
sides_at-returns-then-batches-ne1 t c = of_batches c.args.span c.args.batches.now c.one_side.result c.if-batches-ne1.true c.one_side.ensures

pub sides_at-returns-then-conjuncts-ne1 : goal.sides_at-returns-then-conjuncts-ne1
sides_at-returns-then-conjuncts-ne1 t c =
    of_conjuncts c.args.span c.args.batches.now c.one_side-then-conjuncts-ne1.result c.index-batches-0.result c.as_slice-conjuncts.result.now
    c.if-batches-ne1.false c.index-batches-0.is (c.as_slice-conjuncts.ensures ∙ c.get.ensures) c.if-conjuncts-ne1.true c.one_side-then-conjuncts-ne1.ensures

pub sides_at-returns-then-len-eq0 : goal.sides_at-returns-then-len-eq0
sides_at-returns-then-len-eq0 t c =
    of_unsplit c.args.span c.args.batches.now c.one_side-then-len-eq0.result c.index-batches-0.result c.as_slice-conjuncts.result.now
    c.if-batches-ne1.false c.index-batches-0.is (c.as_slice-conjuncts.ensures ∙ c.get.ensures) c.index-conjuncts-0.result c.in_ok-sides.sides
    c.if-conjuncts-ne1.false c.index-conjuncts-0.is c.in_ok-sides.ensures (sym c.len.ensures ∙ c.if-len-eq0.true) c.one_side-then-len-eq0.ensures

pub sides_at-returns : goal.sides_at-returns
sides_at-returns t c =
    of_further c.args.span c.args.batches.now c.moved_sides.result c.index-batches-0.result c.as_slice-conjuncts.result.now
    c.if-batches-ne1.false c.index-batches-0.is (c.as_slice-conjuncts.ensures ∙ c.get.ensures) c.index-conjuncts-0.result c.in_ok-sides.sides
    c.if-conjuncts-ne1.false c.index-conjuncts-0.is c.in_ok-sides.ensures (λ none. c.if-len-eq0.false (c.len.ensures ∙ none))
    (subst (λ (ds : List Disjunct). IfOk c.moved_sides.result (λ sides. map side_in sides ≡ map (moved_side (numbering c.index-batches-0.result.places)) (map side_in ds)))
    c.as_slice.ensures c.moved_sides.ensures)
