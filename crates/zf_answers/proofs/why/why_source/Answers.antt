use Rattle.zf_answers.proofs.Prelude.{rules, globals_of, AnswersOver, AnswersRequest, IfAnswered, IsUnfit}
use Rattle.zf_answers.proofs.Refusing.{unfit_answers, weaker_err}
use Rattle.zf_answers.proofs.why.why_source.Goals as goal

pub returns-in_err-globals-clause-stop : goal.returns-in_err-globals-clause-stop
returns-in_err-globals-clause-stop c =
    let r = c.args.request.now in
    weaker_err _ (λ s. IfAnswered s (IsUnfit r.details c.args.source.now)) (AnswersRequest r c.args.source.now)
    (λ stop told. unfit_answers r c.args.source.now stop told) (search rules)

pub returns-in_err-asked-clause-stop : goal.returns-in_err-asked-clause-stop
returns-in_err-asked-clause-stop c =
    weaker_err _ (AnswersOver (globals_of c.in_ok-globals.globals) c.args.request.now c.args.source.now) (AnswersRequest c.args.request.now c.args.source.now)
    (λ stop told. told c.in_ok-globals.ensures.checks) (search rules)

pub why_schema-requires-clause-asked : goal.why_schema-requires-clause-asked
why_schema-requires-clause-asked c = c.in_ok-asked.ensures.asked c.args.source.now c.in_ok-globals.ensures.checks
