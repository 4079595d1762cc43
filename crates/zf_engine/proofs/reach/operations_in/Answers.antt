use Rattle.zf_engine.proofs.Prelude.{◌+◌, ◌∷◌, [], List, map, Message, rules, subst, sym, take, globals_of, IfAnswered, Status, TellsNoSchema, AllZip, map-append, take_all, ahead_at, at_first, failed, passed, FirstFails, named_of, IsSchemaOf, IsOfSchema}
use Rattle.zf_engine.proofs.Reaching.{zip_more}
use Rattle.zf_answers.proofs.Refusing.{weaker, weaker_err}
use Rattle.zf_engine.proofs.reach.operations_in.Goals as goal

pub loop-name-init : goal.loop-name-init
loop-name-init c =
    let g = globals_of c.args.globals.now in (
      subst (λ xs. AllZip (IsSchemaOf g) [] (map named_of xs)) (sym c.in_ok-operations.ensures.items) tt,
      at_first (IsOfSchema g) (λ (b : List Message × Status). TellsNoSchema c.args.task.exploration.now.details g b.0 b.1) c.args.names.now,
    )

pub loop-name-preserved : goal.loop-name-preserved
loop-name-preserved c =
    let g = globals_of c.args.globals.now in
    let names = c.args.names.now in
    let i = c.loop-name.name-index in
    let others = c.loop-name.operations.items in
    let one = c.in_ok-named_in.field-0 in (
      subst (λ ys. AllZip (IsSchemaOf g) (take (i + 1) names) (map named_of ys)) (sym c.in_ok-push.ensures.items)
          (subst (λ ns. AllZip (IsSchemaOf g) (take (i + 1) names) ns) (sym (map-append named_of others (one ∷ [])))
          (zip_more (IsSchemaOf g) names (map named_of others) i c.name-item.result (named_of one) c.name-item.is c.loop-name-test.true c.loop-name.invariant.0 c.in_ok-named_in.ensures.named)),
      passed (IsOfSchema g) (λ (b : List Message × Status). TellsNoSchema c.args.task.exploration.now.details g b.0 b.1) names _ _ _
          (ahead_at names i c.name-item.result c.name-item.is c.loop-name-test.true) c.loop-name.invariant.1
          (_, c.in_ok-named_in.ensures.named.1),
    )

pub returns-in_err-named_in-clause-stop : goal.returns-in_err-named_in-clause-stop
returns-in_err-named_in-clause-stop c =
    let g = globals_of c.args.globals.now in
    let details = c.args.task.exploration.now.details in
    let names = c.args.names.now in
    weaker_err _ (λ s. IfAnswered s (λ told status. TellsNoSchema details g told status c.name-item.result))
    (λ s. IfAnswered s (λ told status. FirstFails (IsOfSchema g) (TellsNoSchema details g told status) names))
    (λ stop told. weaker stop (λ told status t.
    failed (IsOfSchema g) (λ (b : List Message × Status). TellsNoSchema details g b.0 b.1) names _ _ _
    (ahead_at names c.loop-name.name-index c.name-item.result c.name-item.is c.loop-name-test.true) c.loop-name.invariant.1 (told, status) t) told)
    (search rules)

pub returns-clause-named : goal.returns-clause-named
returns-clause-named c =
    subst (λ names. AllZip (IsSchemaOf (globals_of c.args.globals.now)) names (map named_of c.loop-name.operations.items))
    (take_all c.loop-name.name-index c.args.names.now c.loop-name-test.false) c.loop-name.invariant.0
