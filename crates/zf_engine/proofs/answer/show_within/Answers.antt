use Rattle.zf_engine.proofs.Prelude.{subst, sym, schema_of, IsNamedRow, Value, option_map, environment_in, IsChosenBy, schema_in, shown_in}
use Rattle.std.proofs.Common.{Global, Vec}
use Rattle.zf_answers.proofs.Subjects.{none_chosen}
use Rattle.zf_engine.proofs.answer.show_within.Goals as goal

pub show_after-requires-clause-all : goal.show_after-requires-clause-all
show_after-requires-clause-all g c =
    let s = c.args.subject.now in
    none_chosen (schema_in s).comps c.args.inquiry.request.now.only (subst (IsChosenBy (schema_in s).comps c.args.inquiry.request.now.only) c.in-None.is c.requires.named.chosen)

pub show_after-requires-clause-named : goal.show_after-requires-clause-named
show_after-requires-clause-named g c =
    let s = c.args.subject.now in
    let r = c.args.inquiry.request.now in
    subst (IsNamedRow (environment_in s) (schema_in s).comps r.after) (sym c.as_deref-after.ensures.value)
    (subst (λ k. IsNamedRow (environment_in s) (shown_in (schema_in s).comps k) r.after (option_map (λ (v : Vec Value Global). v.items) c.args.bounds.now.after)) c.in-None.is c.requires.named.after)

pub show_chosen-requires-clause-chosen : goal.show_chosen-requires-clause-chosen
show_chosen-requires-clause-chosen g c = subst (IsChosenBy (schema_in c.args.subject.now).comps c.args.inquiry.request.now.only) c.in-Some.is c.requires.named.chosen

pub show_chosen-requires-clause-named : goal.show_chosen-requires-clause-named
show_chosen-requires-clause-named g c =
    let s = c.args.subject.now in
    let r = c.args.inquiry.request.now in
    subst (IsNamedRow (environment_in s) (schema_of c.in-Some.chosen.schema.now).comps r.after) (sym c.as_deref-after.ensures.value)
    (subst (λ k. IsNamedRow (environment_in s) (shown_in (schema_in s).comps k) r.after (option_map (λ (v : Vec Value Global). v.items) c.args.bounds.now.after)) c.in-Some.is c.requires.named.after)
