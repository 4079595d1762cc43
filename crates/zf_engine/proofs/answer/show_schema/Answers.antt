use Rattle.zf_engine.proofs.Prelude.{◌∙◌, ap, refl, subst, sym, schema_of, environment_of, spellings, AreHeld}
use Rattle.zf_engine.proofs.Writing.{stopped}
use Rattle.zf_answers.proofs.Refusing.{misnamed_answers, clear_of, names_of}
use Rattle.zf_engine.proofs.answer.show_schema.Goals as goal

pub returns-in_err-elements-clause-shows : goal.returns-in_err-elements-clause-shows
returns-in_err-elements-clause-shows g c = stopped c.args.inquiry.request.now c.args.inquiry.report.file.now c.args.inquiry.report.source.now _ _ c.from_residual.ensures.0

pub show_within-requires-clause-subject : goal.show_within-requires-clause-subject
show_within-requires-clause-subject g c = record {
  asked = c.requires.asked;
  held = subst (AreHeld (environment_of c.args.env.now) (schema_of c.args.schema.now).comps c.args.inquiry.request.now.held) (sym c.deref-in-Ok.ensures.value) c.in-Ok.ensures.held;
  spelled = c.deref.ensures.value ∙ c.in_ok-elements.ensures ∙ ap spellings c.globals.ensures;
  formed = refl;
}

pub refuse-requires-clause-answers : goal.refuse-requires-clause-answers
refuse-requires-clause-answers g c =
    let r = c.args.inquiry.request.now in
    let source = c.args.inquiry.report.source.now in
    let a = schema_of c.args.schema.now in
    let e = environment_of c.args.env.now in
    let clear = clear_of r source a e c.requires.asked c.deref-2.result.now (c.deref-2.ensures.value ∙ c.in_ok-elements.ensures ∙ ap spellings c.globals.ensures) in
    misnamed_answers r source e.globals a e c.requires.asked c.in-Err.stop (c.in-Err.ensures.stop clear (names_of r source a e c.requires.asked))
