use Rattle.zf_answers.proofs.Prelude.{◌∙◌, ap, None, rules, subst, sym, schema_of, environment_of, spellings, AnswersRequest, AreHeld, IfAnswered, TellsNoValues, TellsOut, AreClear, HaveClearNames}
use Rattle.zf_answers.proofs.DueWithin.{due_within}
use Rattle.zf_answers.proofs.Refusing.{all_shown, clear_of, names_of, no_values_answers, weaker_err, well_typed}
use Rattle.zf_answers.proofs.WhyAnswers.{none_named, why_found, why_out}
use Rattle.zf_answers.proofs.why.why_schema.Goals as goal

pub returns-in_err-held-clause-stop : goal.returns-in_err-held-clause-stop
returns-in_err-held-clause-stop c =
    let r = c.args.inquiry.request.now in
    let source = c.args.inquiry.report.source.now in
    let a = schema_of c.args.schema.now in
    let e = environment_of c.args.env.now in
    let elements = c.deref-2.result.now in
    let clear = clear_of r source a e c.requires.asked elements (c.deref-2.ensures.value ∙ c.in_ok-elements.ensures ∙ ap spellings c.globals.ensures) in
    let names = names_of r source a e c.requires.asked in
    weaker_err _ (λ s. AreClear elements e.sizes → HaveClearNames a.comps → IfAnswered s (TellsNoValues r.details e a.comps r.held)) (AnswersRequest r source)
    (λ stop told. no_values_answers r source e.globals a e c.requires.asked a.comps None (all_shown r e a.comps c.requires.plain.1)
    (none_named r e a c.requires.plain) stop (told clear names)) (search rules)

pub why_held-requires : goal.why_held-requires
why_held-requires c =
    let is = c.requires.asked in
    let e = environment_of c.args.env.now in
    record {
      finite = is.finite;
      due = due_within e e.globals c.args.inquiry.request.now.name (schema_of c.args.schema.now) (well_typed _ _ is.has_schema.checks) is.has_schema.named;
      spelled = c.deref.ensures.value ∙ c.in_ok-elements.ensures ∙ ap spellings c.globals.ensures;
    }

-- the values that are held are those that the search is passed
held_of : (c : goal.After-drop-elements-2) → AreHeld (environment_of c.args.env.now) (schema_of c.args.schema.now).comps c.args.inquiry.request.now.held c.deref-3.result.now
held_of c = subst (AreHeld (environment_of c.args.env.now) (schema_of c.args.schema.now).comps c.args.inquiry.request.now.held) (sym c.deref-3.ensures.value) c.in_ok-held.ensures.held

pub returns-clause-answer : goal.returns-clause-answer
returns-clause-answer c =
    why_found c.args.inquiry.request.now c.args.inquiry.report.file.now c.args.inquiry.report.source.now (schema_of c.args.schema.now)
    (environment_of c.args.env.now) c.deref-3.result.now c.requires.plain c.requires.asked (held_of c)
    _ c.args.inquiry.report.details c.requires.details c.why_held.ensures.none_out c.why_held.ensures.told

pub returns-clause-stop : goal.returns-clause-stop
returns-clause-stop c =
    let a = schema_of c.args.schema.now in
    let e = environment_of c.args.env.now in
    weaker_err _ (λ s. IfAnswered s (TellsOut e a.comps)) (AnswersRequest c.args.inquiry.request.now c.args.inquiry.report.source.now)
    (why_out c.args.inquiry.request.now c.args.inquiry.report.file.now c.args.inquiry.report.source.now a e c.deref-3.result.now c.requires.plain c.requires.asked (held_of c)) c.why_held.ensures.stop
