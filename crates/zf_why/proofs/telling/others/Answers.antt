use Rattle.zf_why.proofs.Prelude.{◌++◌, ◌∙◌, ◌≡◌, ap, Bool, false, List, length, subst, slice_set, chosen_of, length-set, IfOk, Conjunct}
use Rattle.zf_why.proofs.telling.others.Goals as goal

pub push_chosen-requires : goal.push_chosen-requires
push_chosen-requires c =
    ap length (c.deref.ensures.value ∙ ap (λ (m : List Bool). slice_set m c.args.place false) c.in_ok-rest.ensures.items) ∙ length-set c.args.chosen.now c.args.place false ∙ c.requires.each

pub returns : goal.returns
returns c =
    let xs = c.args.conjuncts.now in
    subst (λ (ps : List Conjunct). IfOk c.flat.result (λ others. others ≡ ps))
    (c.in_ok-push_chosen.ensures
    ∙ ap (λ (ps : List Conjunct). ps ++ chosen_of xs c.deref.result.now) c.new-part.ensures
    ∙ ap (chosen_of xs) (c.deref.ensures.value ∙ ap (λ (m : List Bool). slice_set m c.args.place false) c.in_ok-rest.ensures.items))
    c.flat.ensures
