use Rattle.zf_engine.proofs.Prelude.{rules, AnswersExploration, environment_of, globals_of, IfAnswered, numbers_of, stated, TellsMisfit, TellsNumbers, schemas_of, HasInfinite, HasLacking, HasOut, LacksSchema}
use Rattle.zf_engine.proofs.Reaching.{has_bad_sizes, has_infinite, has_large_numbers, has_out, lacks_component, lacks_schema, searchable}
use Rattle.zf_answers.proofs.Refusing.{weaker_err}
use Rattle.zf_engine.proofs.reach.settled_in.Goals as goal

pub returns-in_err-schemas-clause-stop : goal.returns-in_err-schemas-clause-stop
returns-in_err-schemas-clause-stop c =
    let x = c.args.task.exploration.now in
    let source = c.args.task.report.source.now in
    let g = globals_of c.args.globals.now in
    weaker_err _ (λ s. IfAnswered s (LacksSchema x g)) (AnswersExploration x source) (lacks_schema x source g c.requires.checks) (search rules)

pub returns-in_err-check_shape-clause-stop : goal.returns-in_err-check_shape-clause-stop
returns-in_err-check_shape-clause-stop c =
    let x = c.args.task.exploration.now in
    let source = c.args.task.report.source.now in
    let p = schemas_of c.in_ok-schemas.schemas in
    weaker_err _ (λ s. IfAnswered s (HasLacking p)) (AnswersExploration x source)
    (lacks_component x source (globals_of c.args.globals.now) c.requires.checks p c.in_ok-schemas.ensures.named) (search rules)

pub returns-in_err-numbers-clause-stop : goal.returns-in_err-numbers-clause-stop
returns-in_err-numbers-clause-stop c =
    let x = c.args.task.exploration.now in
    let source = c.args.task.report.source.now in
    weaker_err _ (λ s. IfAnswered s (TellsNumbers (numbers_of x.setting))) (AnswersExploration x source)
    (has_large_numbers x source (globals_of c.args.globals.now) c.requires.checks
    (schemas_of c.in_ok-schemas.schemas) c.in_ok-schemas.ensures.named c.in_ok-check_shape.ensures.shape) (search rules)

pub returns-in_err-env-clause-stop : goal.returns-in_err-env-clause-stop
returns-in_err-env-clause-stop c =
    let x = c.args.task.exploration.now in
    let source = c.args.task.report.source.now in
    let g = globals_of c.args.globals.now in
    weaker_err _ (λ s. IfAnswered s (TellsMisfit x.details g (stated g x.setting))) (AnswersExploration x source)
    (has_bad_sizes x source g c.requires.checks (schemas_of c.in_ok-schemas.schemas)
    c.in_ok-schemas.ensures.named c.in_ok-check_shape.ensures.shape c.in_ok-numbers.ensures.small) (search rules)

pub returns-in_err-check_all_finite-clause-stop : goal.returns-in_err-check_all_finite-clause-stop
returns-in_err-check_all_finite-clause-stop c =
    let x = c.args.task.exploration.now in
    let source = c.args.task.report.source.now in
    let g = globals_of c.args.globals.now in
    let p = schemas_of c.in_ok-schemas.schemas in
    let e = environment_of c.in_ok-env.env in
    weaker_err _ (λ s. IfAnswered s (HasInfinite x source e.numbers e.globals p)) (AnswersExploration x source)
    (has_infinite x source g c.requires.checks p c.in_ok-schemas.ensures.named c.in_ok-check_shape.ensures.shape c.in_ok-numbers.ensures.small
    c.in_ok-env.ensures.complete e c.in_ok-env.ensures.is) (search rules)

pub returns-in_err-check_all_declared-clause-stop : goal.returns-in_err-check_all_declared-clause-stop
returns-in_err-check_all_declared-clause-stop c =
    let x = c.args.task.exploration.now in
    let source = c.args.task.report.source.now in
    let g = globals_of c.args.globals.now in
    let p = schemas_of c.in_ok-schemas.schemas in
    let e = environment_of c.in_ok-env.env in
    weaker_err _ (λ s. IfAnswered s (HasOut e p)) (AnswersExploration x source)
    (has_out x source g c.requires.checks p c.in_ok-schemas.ensures.named c.in_ok-check_shape.ensures.shape c.in_ok-numbers.ensures.small
    c.in_ok-env.ensures.complete e c.in_ok-env.ensures.is c.in_ok-check_all_finite.ensures.ok) (search rules)

pub returns-clause-searchable : goal.returns-clause-searchable
returns-clause-searchable c =
    let x = c.args.task.exploration.now in
    searchable x c.args.task.report.source.now (globals_of c.args.globals.now) c.requires.checks
    (schemas_of c.in_ok-schemas.schemas) c.in_ok-schemas.ensures.named
    c.in_ok-check_shape.ensures.shape c.in_ok-numbers.ensures.small c.in_ok-env.ensures.complete
    (environment_of c.in_ok-env.env) c.in_ok-env.ensures.is c.in_ok-check_all_finite.ensures.ok c.in_ok-check_all_declared.ensures.ok
