use Rattle.zf_answers.proofs.Prelude.{◌∙◌, ◌∷◌, [], ap, subst, sym, environment_of, schema_of, AreHeld, IfAnswered, TellsNoValues, AreClear, HaveClearNames}
use Rattle.zf_answers.proofs.Refusing.{line_told, no_values_told, weaker}
use Rattle.zf_answers.proofs.held.values_held.Goals as goal

pub returns-in_ok-message-in-Err-NotABinding-clause-stop : goal.returns-in_ok-message-in-Err-NotABinding-clause-stop
returns-in_ok-message-in-Err-NotABinding-clause-stop c =
    let e = environment_of c.args.env.now in
    let comps = (schema_of c.args.flat.now).comps in
    let stop = c.told.result in
    subst (λ o. AreClear c.args.elements.now e.sizes → HaveClearNames comps → IfAnswered stop (TellsNoValues c.args.inquiry.request.now.details e comps o)) (sym c.in-Some.is)
    (no_values_told _ _ _ _ _ stop c.args.inquiry.request.now.details (c.in-Err-NotABinding.place, _) c.requires c.as_bytes.ensures (rw c.in-Err-NotABinding.field-0-is at c.in-Err-NotABinding.ensures.refused)
    (weaker stop (λ told status is. (is.0 ∙ ap (λ m. m ∷ []) c.in_ok-message-in-Err-NotABinding.ensures, is.1)) c.told.ensures))

pub returns-in-Ok-clause-held : goal.returns-in-Ok-clause-held
returns-in-Ok-clause-held c =
    subst (λ o. AreHeld (environment_of c.args.env.now) (schema_of c.args.flat.now).comps o c.in-Ok.values.items) (sym c.in-Some.is)
    (line_told _ _ _ _ _ _ c.requires c.as_bytes.ensures c.in-Ok.ensures.read)
