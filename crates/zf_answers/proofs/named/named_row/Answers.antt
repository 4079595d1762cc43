use Rattle.zf_answers.proofs.Prelude.{◌∙◌, ◌∷◌, [], ap, subst, sym, environment_of, schema_of, IfAnswered, TellsNoRow, AreClear}
use Rattle.zf_answers.proofs.Refusing.{no_row_told, weaker}
use Rattle.zf_answers.proofs.named.named_row.Goals as goal

pub returns-in_ok-message-in-Err-NotABinding-clause-stop : goal.returns-in_ok-message-in-Err-NotABinding-clause-stop
returns-in_ok-message-in-Err-NotABinding-clause-stop c =
    let e = environment_of c.args.env.now in
    let comps = (schema_of c.args.flat.now).comps in
    let stop = c.told.result in
    subst (λ o. AreClear c.args.elements.now e.sizes → IfAnswered stop (TellsNoRow c.args.inquiry.request.now.details e comps o)) (sym c.in-Some.is)
    (no_row_told _ _ _ _ _ stop c.args.inquiry.request.now.details (c.in-Err-NotABinding.place, _) c.requires c.as_bytes.ensures (rw c.in-Err-NotABinding.field-0-is at c.in-Err-NotABinding.ensures.refused)
    (weaker stop (λ told status is. (is.0 ∙ ap (λ m. m ∷ []) c.in_ok-message-in-Err-NotABinding.ensures, is.1)) c.told.ensures))
