use Rattle.zf_engine.proofs.Prelude.{arith, comp_of, length-map, None, subst, option_copied, portion, planted_goal, at_start, IsNamedRow, environment_in, schema_in}
use Rattle.zf_engine.proofs.Writing.{parts_shown}
use Rattle.zf_answers.proofs.Refusing.{out_answers, some_shown}
use Rattle.zf_answers.proofs.Subjects.{can_be_searched, chosen_by, searched_some}
use Rattle.zf_engine.proofs.Wordings.{part_worded}
use Rattle.zf_engine.proofs.answer.show_chosen.Goals as goal

pub begin-requires-clause-searched : goal.begin-requires-clause-searched
begin-requires-clause-searched g c = can_be_searched c.args.inquiry.request.now c.args.inquiry.report.source.now c.args.subject.now c.requires.subject

pub show_parts-requires-clause-start : goal.show_parts-requires-clause-start
show_parts-requires-clause-start g c = at_start _ _ _ _ _ c.in-Ok.ensures.begins

pub show_fronts-requires-clause-start : goal.show_fronts-requires-clause-start
show_fronts-requires-clause-start g c = at_start _ _ _ _ _ c.in-Ok.ensures.begins

pub show_fronts-requires-clause-first : goal.show_fronts-requires-clause-first
show_fronts-requires-clause-first g c =
    let first = c.are_first.ensures c.if-are_first.true in
    (first.0, omega (arith, first.1, c.len.ensures, length-map c.args.chosen.now.schema.now.components comp_of))

pub returns-then-are_first-clause-shows : goal.returns-then-are_first-clause-shows
returns-then-are_first-clause-shows g c =
    let r = c.args.inquiry.request.now in
    let source = c.args.inquiry.report.source.now in
    let s = c.args.subject.now in
    let is = c.requires.subject in
    let e = environment_in s in
    let comps = (schema_in s).comps in
    let by = chosen_by comps r.only c.args.chosen.now c.requires.chosen in
    let after = option_copied c.args.after in
    let names = by.0 in
    let places = c.args.chosen.now.places.items in
    let named = subst (λ cs. IsNamedRow e cs r.after after) by.3 c.requires.named in
    parts_shown r c.args.inquiry.report.file.now source (schema_in s) (planted_goal c.in-Ok.search.names c.in-Ok.search.search) c.in-Ok.search.search.stage _ e (portion None s.held.now)
    (searched_some r source s is names places after by.1 by.2 named c.in-Ok.ensures.begins.none_out) c.in-Ok.ensures.begins names places after by.1 by.2 named
    (part_worded r source s is places c.args.chosen.now by.3) _ _ _
    (rw c.deref.ensures.value at c.show_fronts.ensures.ok) (rw c.deref.ensures.value at c.show_fronts.ensures.err)

pub returns-else-are_first-clause-shows : goal.returns-else-are_first-clause-shows
returns-else-are_first-clause-shows g c =
    let r = c.args.inquiry.request.now in
    let source = c.args.inquiry.report.source.now in
    let s = c.args.subject.now in
    let is = c.requires.subject in
    let e = environment_in s in
    let comps = (schema_in s).comps in
    let by = chosen_by comps r.only c.args.chosen.now c.requires.chosen in
    let after = option_copied c.args.after in
    let names = by.0 in
    let places = c.args.chosen.now.places.items in
    let named = subst (λ cs. IsNamedRow e cs r.after after) by.3 c.requires.named in
    parts_shown r c.args.inquiry.report.file.now source (schema_in s) (planted_goal c.in-Ok.search.names c.in-Ok.search.search) c.in-Ok.search.search.stage _ e (portion None s.held.now)
    (searched_some r source s is names places after by.1 by.2 named c.in-Ok.ensures.begins.none_out) c.in-Ok.ensures.begins names places after by.1 by.2 named
    (part_worded r source s is places c.args.chosen.now by.3) _ _ _
    (rw c.deref.ensures.value at c.show_parts.ensures.ok) (rw c.deref.ensures.value at c.show_parts.ensures.err)

pub refuse-requires-clause-answers : goal.refuse-requires-clause-answers
refuse-requires-clause-answers g c =
    let r = c.args.inquiry.request.now in
    let s = c.args.subject.now in
    let is = c.requires.subject in
    let e = environment_in s in
    let comps = (schema_in s).comps in
    let by = chosen_by comps r.only c.args.chosen.now c.requires.chosen in
    out_answers r c.args.inquiry.report.source.now e.globals (schema_in s) e is.asked _ (option_copied c.args.after) s.held.now
    (some_shown r e comps by.0 _ by.1 by.2) (subst (λ cs. IsNamedRow e cs r.after (option_copied c.args.after)) by.3 c.requires.named) is.held c.in-Err.stop c.in-Err.ensures.stop
