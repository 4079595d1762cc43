use Rattle.zf_answers.proofs.Prelude.{◌∙◌, ◌∷◌, ◌≡◌, [], ap, arith, get_or, List, subst, length-map, comp_of, declared_out}
use Rattle.zf_term.specs.declared.schema.Component.{Component}
use Rattle.zf_ranges.proofs.Comps.{comp_at}
use Rattle.zf_answers.proofs.Refusing.{weaker}
use Rattle.zf_answers.proofs.begin.declared_out.Goals as goal

pub returns-in-Ok : goal.returns-in-Ok
returns-in-Ok c =
    let x = c.index-as_slice-place.result in
    let at : x ≡ get_or c.args.flat.now.components c.args.place x =
    subst (λ (xs : List Component). x ≡ get_or xs c.args.place x) c.as_slice.ensures c.index-as_slice-place.is in
    weaker c.told.result (λ told status is. (
      comp_of x,
      comp_at c.args.flat.now.components c.args.place x at (omega (arith, c.requires, length-map c.args.flat.now.components comp_of)),
      is.0 ∙ ap (λ m. m ∷ []) (c.in-Ok.ensures ∙ ap declared_out c.as_slice-2.ensures),
      is.1,
    )) c.told.ensures
