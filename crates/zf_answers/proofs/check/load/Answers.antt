use Rattle.zf_answers.proofs.Prelude.{◌==◌, ◌∙◌, ap, inl, inr, length, map, refl, rules, subst, fault_of, globals_of, AreFaultMessages, Checks, IfAnswered, IsUnfit, UnreadAnswer}
use Rattle.zf_answers.proofs.Refusing.{some_mapped, some_of, none_of, weaker, weaker_err}
use Rattle.zf_answers.proofs.check.load.Goals as goal

pub returns-in_err-checked-clause-stop : goal.returns-in_err-checked-clause-stop
returns-in_err-checked-clause-stop c =
    let r = c.args.report in
    weaker_err _ (λ s. IfAnswered s (UnreadAnswer r.details r.source.now)) (λ s. IfAnswered s (IsUnfit r.details r.source.now))
    (λ stop told. weaker stop (λ told status unread. inl unread) told) (search rules)

pub returns-then-not-is_empty-clause-stop : goal.returns-then-not-is_empty-clause-stop
returns-then-not-is_empty-clause-stop c =
    let faults = c.in_ok-checked.checked.faults in
    inr (record {
      globals = globals_of c.in_ok-checked.checked.globals;
      faults = map fault_of faults;
      checks = c.in_ok-checked.ensures.checks;
      some = some_mapped fault_of faults (some_of faults c.is_empty.result c.if-not-is_empty.true (c.is_empty.ensures ∙ ap (λ xs. length xs == 0) c.as_slice.ensures));
      messages = subst (λ fs. AreFaultMessages c.args.report.details c.args.report.source.now (map fault_of fs) c.in_ok-messages.messages)
          c.as_slice-then-not-is_empty.ensures c.in_ok-messages.ensures;
      bad = refl;
    })

pub returns-clause-checks : goal.returns-clause-checks
returns-clause-checks c =
    let none = none_of c.in_ok-checked.checked.faults c.is_empty.result c.if-not-is_empty.false (c.is_empty.ensures ∙ ap (λ xs. length xs == 0) c.as_slice.ensures) in
    subst (Checks c.args.report.source.now (globals_of c.in_ok-checked.checked.globals)) (ap (map fault_of) none) c.in_ok-checked.ensures.checks
