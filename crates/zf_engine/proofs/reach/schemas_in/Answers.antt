use Rattle.zf_engine.proofs.Prelude.{inl, inr, map, rules, subst, globals_of, IfAnswered, TellsNoSchema, AllZip, option_to_list, FirstFails, named_of, IsSchemaOf, LacksSchema, IsOfSchema}
use Rattle.zf_engine.proofs.Reaching.{all_named, fails_before, fails_behind}
use Rattle.zf_answers.proofs.Refusing.{weaker, weaker_err}
use Rattle.zf_engine.proofs.reach.schemas_in.Goals as goal

pub returns-in_err-state-clause-stop : goal.returns-in_err-state-clause-stop
returns-in_err-state-clause-stop c =
    let x = c.args.task.exploration.now in
    let g = globals_of c.args.globals.now in
    weaker_err _ (λ s. IfAnswered s (λ told status. TellsNoSchema x.details g told status x.state)) (λ s. IfAnswered s (LacksSchema x g))
    (λ stop told. weaker stop (λ told status t. inl t) told) (search rules)

pub returns-in_err-init-clause-stop : goal.returns-in_err-init-clause-stop
returns-in_err-init-clause-stop c =
    let x = c.args.task.exploration.now in
    let g = globals_of c.args.globals.now in
    weaker_err _ (λ s. IfAnswered s (λ told status. TellsNoSchema x.details g told status x.initial)) (λ s. IfAnswered s (LacksSchema x g))
    (λ stop told. weaker stop (λ told status t. inr ((_, c.in_ok-state.ensures.named.1), inl t)) told) (search rules)

pub returns-in_err-operations-clause-stop : goal.returns-in_err-operations-clause-stop
returns-in_err-operations-clause-stop c =
    let x = c.args.task.exploration.now in
    let g = globals_of c.args.globals.now in
    weaker_err _ (λ s. IfAnswered s (λ told status. FirstFails (IsOfSchema g) (TellsNoSchema x.details g told status) x.operations))
    (λ s. IfAnswered s (LacksSchema x g))
    (λ stop told. weaker stop (λ told status t.
    inr (
      (_, c.in_ok-state.ensures.named.1),
      inr (
        (_, c.in_ok-init.ensures.named.1),
        fails_before (IsOfSchema g) (TellsNoSchema x.details g told status) x.operations (option_to_list x.sought) t,
      ),
    )) told)
    (search rules)

pub returns-in_err-sought-clause-stop : goal.returns-in_err-sought-clause-stop
returns-in_err-sought-clause-stop c =
    let x = c.args.task.exploration.now in
    let g = globals_of c.args.globals.now in
    let ns = map named_of c.in_ok-operations.operations.items in
    let operations = all_named g x.operations ns (subst (λ names. AllZip (IsSchemaOf g) names ns) c.as_slice.ensures c.in_ok-operations.ensures.named) in
    weaker_err _ (λ s. IfAnswered s (λ told status. FirstFails (IsOfSchema g) (TellsNoSchema x.details g told status) (option_to_list x.sought)))
    (λ s. IfAnswered s (LacksSchema x g))
    (λ stop told. weaker stop (λ told status t.
    inr (
      (_, c.in_ok-state.ensures.named.1),
      inr (
        (_, c.in_ok-init.ensures.named.1),
        fails_behind (IsOfSchema g) (TellsNoSchema x.details g told status) x.operations (option_to_list x.sought) operations t,
      ),
    )) told)
    (search rules)

pub returns-clause-named : goal.returns-clause-named
returns-clause-named c =
    let g = globals_of c.args.globals.now in
    record {
      state = c.in_ok-state.ensures.named;
      init = c.in_ok-init.ensures.named;
      operations = subst (λ names. AllZip (IsSchemaOf g) names (map named_of c.in_ok-operations.operations.items)) c.as_slice.ensures c.in_ok-operations.ensures.named;
      sought = c.in_ok-sought.ensures.named;
    }
