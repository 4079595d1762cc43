use Rattle.zf_answers.proofs.Prelude.{inl, inr, rules, subst, schema_of, environment_of, IfAnswered, IsNamedRow, TellsMisnamed, TellsNoParts, TellsNoRow, TellsNoValues, Value, AreClear, HaveClearNames, option_map}
use Rattle.std.proofs.Common.{Global, Vec}
use Rattle.zf_answers.proofs.Refusing.{weaker, weaker_err}
use Rattle.zf_answers.proofs.Subjects.{are_shown_as}
use Rattle.zf_answers.proofs.bounds.bounds_in.Goals as goal

pub returns-in_err-chosen-clause-stop : goal.returns-in_err-chosen-clause-stop
returns-in_err-chosen-clause-stop c =
    let e = environment_of c.args.env.now in
    let comps = (schema_of c.args.flat.now).comps in
    let r = c.args.inquiry.request.now in
    weaker_err _ (λ s. IfAnswered s (TellsNoParts comps r.only)) (λ s. AreClear c.args.elements.now e.sizes → HaveClearNames comps → IfAnswered s (TellsMisnamed e comps r))
    (λ stop told clear names. weaker stop (λ told status t. inl t) told) (search rules)

pub returns-in_err-after-clause-stop : goal.returns-in_err-after-clause-stop
returns-in_err-after-clause-stop c =
    let e = environment_of c.args.env.now in
    let comps = (schema_of c.args.flat.now).comps in
    let r = c.args.inquiry.request.now in
    let lines = (schema_of c.shown-lines.result.now).comps in
    weaker_err _ (λ s. AreClear c.args.elements.now e.sizes → IfAnswered s (TellsNoRow r.details e lines r.after)) (λ s. AreClear c.args.elements.now e.sizes
    → HaveClearNames comps → IfAnswered s (TellsMisnamed e comps r))
    (λ stop told clear names. weaker stop (λ told status t. inr (
      lines,
      (are_shown_as comps r.only _ lines c.in_ok-chosen.ensures.chosen c.shown-lines.ensures),
      inl t,
    )) (told clear)) (search rules)

pub returns-in_err-held-clause-stop : goal.returns-in_err-held-clause-stop
returns-in_err-held-clause-stop c =
    let e = environment_of c.args.env.now in
    let comps = (schema_of c.args.flat.now).comps in
    let r = c.args.inquiry.request.now in
    let lines = (schema_of c.shown-lines.result.now).comps in
    weaker_err _ (λ s. AreClear c.args.elements.now e.sizes → HaveClearNames comps
    → IfAnswered s (TellsNoValues r.details e comps r.held)) (λ s. AreClear c.args.elements.now e.sizes → HaveClearNames comps
    → IfAnswered s (TellsMisnamed e comps r))
    (λ stop told clear names. weaker stop (λ told status t. inr (
      lines,
      (are_shown_as comps r.only _ lines c.in_ok-chosen.ensures.chosen
          c.shown-lines.ensures),
      inr (_, c.in_ok-after.ensures.named, t),
    )) (told clear names)) (search rules)

pub returns-clause-named : goal.returns-clause-named
returns-clause-named c = record {
  chosen = c.in_ok-chosen.ensures.chosen;
  after = subst (λ cs. IsNamedRow (environment_of c.args.env.now) cs c.args.inquiry.request.now.after
      (option_map (λ (v : Vec Value Global). v.items) c.in_ok-after.after)) c.shown-lines.ensures c.in_ok-after.ensures.named;
}
