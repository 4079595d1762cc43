use Rattle.zf_answers.proofs.Prelude.{rules, subst, globals_of, schema_of, environment_of, numbers_of, stated, AnswersOver, IfAnswered, TellsInfinite, TellsMisfit, TellsNoSchema, TellsNumbers}
use Rattle.zf_answers.proofs.Refusing.{asked, has_schema, infinite_answers, infinite_here, misfit_answers, no_schema_answers, numbers_answer, weaker_err}
use Rattle.zf_answers.proofs.asked.find_schema.Goals as goal

pub returns-in_err-schema-clause-stop : goal.returns-in_err-schema-clause-stop
returns-in_err-schema-clause-stop c =
    let r = c.args.request.now in
    let g = globals_of c.args.globals.now in
    let source = c.args.report.source.now in
    weaker_err _ (λ s. IfAnswered s (λ told status. TellsNoSchema r.details g told status r.name)) (AnswersOver g r source)
    (λ stop told checks. no_schema_answers r source g checks stop told) (search rules)

pub returns-in_err-numbers-clause-stop : goal.returns-in_err-numbers-clause-stop
returns-in_err-numbers-clause-stop c =
    let r = c.args.request.now in
    let source = c.args.report.source.now in
    weaker_err _ (λ s. IfAnswered s (TellsNumbers (numbers_of r.setting))) (AnswersOver (globals_of c.args.globals.now) r source)
    (λ stop told checks. numbers_answer r source _ _ (has_schema r source _ _ checks c.in_ok-schema.ensures.named) stop told) (search rules)

pub returns-in_err-env-clause-stop : goal.returns-in_err-env-clause-stop
returns-in_err-env-clause-stop c =
    let r = c.args.request.now in
    let g = globals_of c.args.globals.now in
    let source = c.args.report.source.now in
    weaker_err _ (λ s. IfAnswered s (TellsMisfit r.details g (stated g r.setting))) (AnswersOver g r source)
    (λ stop told checks. misfit_answers r source _ _
    (has_schema r source _ _ checks c.in_ok-schema.ensures.named) c.in_ok-numbers.ensures.small stop told) (search rules)

pub returns-in_err-check_finite-clause-stop : goal.returns-in_err-check_finite-clause-stop
returns-in_err-check_finite-clause-stop c =
    let r = c.args.request.now in
    let source = c.args.report.source.now in
    let e = environment_of c.in_ok-env.env in
    let a = schema_of c.in_ok-schema.schema.now in
    weaker_err _ (λ s. IfAnswered s (TellsInfinite e.numbers e.globals a c.args.report.details source)) (AnswersOver (globals_of c.args.globals.now) r source)
    (λ stop told checks. infinite_answers r source _ _ (has_schema r source _ _ checks c.in_ok-schema.ensures.named)
    c.in_ok-numbers.ensures.small c.in_ok-env.ensures.complete stop
    (infinite_here r source (globals_of c.args.globals.now) a e c.in_ok-env.ensures.is stop
    (subst (λ d. IfAnswered stop (TellsInfinite e.numbers e.globals a d source)) c.requires told))) (search rules)

pub returns-clause-asked : goal.returns-clause-asked
returns-clause-asked c = λ source checks.
    asked c.args.request.now source _ _ (environment_of c.in_ok-env.env) (has_schema c.args.request.now source _ _ checks c.in_ok-schema.ensures.named)
    c.in_ok-numbers.ensures.small c.in_ok-env.ensures.complete c.in_ok-env.ensures.is c.in_ok-check_finite.ensures.ok
