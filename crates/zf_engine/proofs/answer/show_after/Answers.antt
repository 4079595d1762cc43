use Rattle.zf_engine.proofs.Prelude.{false, rules, option_copied, portion, planted_goal, at_start, environment_in, schema_in}
use Rattle.zf_engine.proofs.NamedRows.{named_length}
use Rattle.zf_engine.proofs.Writing.{shown}
use Rattle.zf_answers.proofs.Refusing.{all_shown, out_answers}
use Rattle.zf_answers.proofs.Subjects.{can_be_searched, searched_all}
use Rattle.zf_engine.proofs.Wordings.{worded}
use Rattle.zf_engine.proofs.answer.show_after.Goals as goal

pub begin-requires-clause-searched : goal.begin-requires-clause-searched
begin-requires-clause-searched g c = can_be_searched c.args.inquiry.request.now c.args.inquiry.report.source.now c.args.subject.now c.requires.subject

pub begin-requires-clause-named : goal.begin-requires-clause-named
begin-requires-clause-named g c = named_length _ _ _ _ c.requires.named

pub show-requires-clause-start : goal.show-requires-clause-start
show-requires-clause-start g c = at_start _ _ _ _ _ c.in-Ok.ensures.begins

pub returns-in-Ok-clause-shows : goal.returns-in-Ok-clause-shows
returns-in-Ok-clause-shows g c =
    let r = c.args.inquiry.request.now in
    let source = c.args.inquiry.report.source.now in
    let s = c.args.subject.now in
    let is = c.requires.subject in
    shown r c.args.inquiry.report.file.now source (schema_in s) (planted_goal c.in-Ok.search.names c.in-Ok.search.search) c.in-Ok.search.search.stage _
    (environment_in s) (portion (option_copied c.args.after) s.held.now)
    (searched_all r source s is c.requires.all (option_copied c.args.after) c.requires.named c.in-Ok.ensures.begins.none_out) c.in-Ok.ensures.begins
    c.requires.all (worded r source s is) false _ _ _ (search rules) c.show.ensures.ok c.show.ensures.err

pub refuse-requires-clause-answers : goal.refuse-requires-clause-answers
refuse-requires-clause-answers g c =
    let s = c.args.subject.now in
    let is = c.requires.subject in
    out_answers c.args.inquiry.request.now c.args.inquiry.report.source.now (environment_in s).globals (schema_in s) (environment_in s) is.asked
    (schema_in s).comps (option_copied c.args.after) s.held.now (all_shown c.args.inquiry.request.now (environment_in s) (schema_in s).comps c.requires.all)
    c.requires.named is.held c.in-Err.stop c.in-Err.ensures.stop
