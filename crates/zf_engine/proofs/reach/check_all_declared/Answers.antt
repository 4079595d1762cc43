use Rattle.zf_engine.proofs.Prelude.{◌∙◌, ap, map, rules, subst, sym, environment_of, IfAnswered, schema_of, TellsOut, AllByRecursion, all_of, all_passed, at_first, failed, IsAhead, mapped_ahead, mapped_end, passed, named_of, schemas_of, HasOut}
use Rattle.zf_engine.proofs.Reaching.{Ends, StaysIn, TellsLeaving}
use Rattle.zf_answers.proofs.Refusing.{weaker, weaker_err}
use Rattle.zf_engine.proofs.reach.check_all_declared.Goals as goal

pub loop-named-init : goal.loop-named-init
loop-named-init c =
    let e = environment_of c.args.env.now in
    let all = all_of (schemas_of c.args.schemas.now) in
    let are = sym (ap (map named_of) c.deref-named-items.ensures.value ∙ c.in_ok-all.ensures) in
    (subst (IsAhead (StaysIn e) (TellsLeaving e) all) are (at_first (StaysIn e) (TellsLeaving e) all), subst (AllByRecursion (Ends e)) are c.requires)

pub check_declared-requires : goal.check_declared-requires
check_declared-requires c =
    (subst (AllByRecursion (Ends (environment_of c.args.env.now)))
    (mapped_ahead named_of c.deref-named-items.result.now c.loop-named.named-index c.named-item.result c.named-item.is c.loop-named-test.true) c.loop-named.invariant.1).0

pub loop-named-preserved : goal.loop-named-preserved
loop-named-preserved c =
    let e = environment_of c.args.env.now in
    let ahead = mapped_ahead named_of c.deref-named-items.result.now c.loop-named.named-index c.named-item.result c.named-item.is c.loop-named-test.true in (
      passed (StaysIn e) (TellsLeaving e) (all_of (schemas_of c.args.schemas.now)) _ _ _ ahead c.loop-named.invariant.0 c.in_ok-check_declared.ensures.ok,
      (subst (AllByRecursion (Ends e)) ahead c.loop-named.invariant.1).1,
    )

pub returns-in_err-check_declared-clause-stop : goal.returns-in_err-check_declared-clause-stop
returns-in_err-check_declared-clause-stop c =
    let e = environment_of c.args.env.now in
    let p = schemas_of c.args.schemas.now in
    weaker_err _ (λ s. IfAnswered s (TellsOut e (schema_of c.named-item.result.schema.now).comps)) (λ s. IfAnswered s (HasOut e p))
    (λ stop told. weaker stop (λ told status t. failed (StaysIn e) (TellsLeaving e) (all_of p) _ _ _
    (mapped_ahead named_of c.deref-named-items.result.now c.loop-named.named-index c.named-item.result c.named-item.is c.loop-named-test.true)
    c.loop-named.invariant.0 (told, status) t) told) (search rules)

pub returns-clause-ok : goal.returns-clause-ok
returns-clause-ok c =
    let e = environment_of c.args.env.now in
    all_passed (StaysIn e) (TellsLeaving e) (all_of (schemas_of c.args.schemas.now)) _
    (mapped_end named_of c.deref-named-items.result.now c.loop-named.named-index c.loop-named-test.false) c.loop-named.invariant.0
