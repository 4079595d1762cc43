use Rattle.zf_engine.proofs.Prelude.{◌∙◌, ap, map, rules, subst, sym, environment_of, IfAnswered, schema_of, TellsInfinite, all_of, all_passed, at_first, failed, IsAhead, mapped_ahead, mapped_end, passed, named_of, schemas_of, HasInfinite}
use Rattle.zf_engine.proofs.Reaching.{Ends, TellsEndless}
use Rattle.zf_answers.proofs.Refusing.{weaker, weaker_err}
use Rattle.zf_engine.proofs.reach.check_all_finite.Goals as goal

pub loop-named-init : goal.loop-named-init
loop-named-init c =
    let e = environment_of c.args.env.now in
    let tells = TellsEndless c.args.task.exploration.now c.args.task.report.source.now e in
    let all = all_of (schemas_of c.args.schemas.now) in
    subst (IsAhead (Ends e) tells all) (sym (ap (map named_of) c.deref-named-items.ensures.value ∙ c.in_ok-all.ensures)) (at_first (Ends e) tells all)

pub loop-named-preserved : goal.loop-named-preserved
loop-named-preserved c =
    let e = environment_of c.args.env.now in
    passed (Ends e) (TellsEndless c.args.task.exploration.now c.args.task.report.source.now e) (all_of (schemas_of c.args.schemas.now)) _ _ _
    (mapped_ahead named_of c.deref-named-items.result.now c.loop-named.named-index c.named-item.result c.named-item.is c.loop-named-test.true)
    c.loop-named.invariant c.in_ok-check_finite.ensures.ok

pub returns-in_err-check_finite-clause-stop : goal.returns-in_err-check_finite-clause-stop
returns-in_err-check_finite-clause-stop c =
    let e = environment_of c.args.env.now in
    let x = c.args.task.exploration.now in
    let source = c.args.task.report.source.now in
    let p = schemas_of c.args.schemas.now in
    let a = schema_of c.named-item.result.schema.now in
    weaker_err _ (λ s. IfAnswered s (TellsInfinite e.numbers e.globals a c.args.task.report.details source))
    (λ s. IfAnswered s (HasInfinite x source e.numbers e.globals p))
    (λ stop told. weaker stop (λ told status t. failed (Ends e) (TellsEndless x source e) (all_of p) _ _ _
    (mapped_ahead named_of c.deref-named-items.result.now c.loop-named.named-index c.named-item.result c.named-item.is c.loop-named-test.true)
    c.loop-named.invariant (told, status) t)
    (subst (λ d. IfAnswered stop (TellsInfinite e.numbers e.globals a d source)) c.requires told)) (search rules)

pub returns-clause-ok : goal.returns-clause-ok
returns-clause-ok c =
    let e = environment_of c.args.env.now in
    all_passed (Ends e) (TellsEndless c.args.task.exploration.now c.args.task.report.source.now e) (all_of (schemas_of c.args.schemas.now)) _
    (mapped_end named_of c.deref-named-items.result.now c.loop-named.named-index c.loop-named-test.false) c.loop-named.invariant
