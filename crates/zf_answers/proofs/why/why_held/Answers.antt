use Rattle.zf_answers.proofs.WhyAnswers.{none_told}
use Rattle.zf_answers.proofs.why.why_held.Goals as goal

pub returns-in-Some-clause-told : goal.returns-in-Some-clause-told
returns-in-Some-clause-told c = (rw c.in-Some.is at c.in_ok-answer.ensures.first) c.args.report.details c.args.report.file.now c.args.report.source.now

pub returns-in_ok-none_text-in-None-clause-told : goal.returns-in_ok-none_text-in-None-clause-told
returns-in_ok-none_text-in-None-clause-told c =
    none_told c.args.subject.now c.args.report.details c.args.report.file.now c.args.report.source.now c.requires _ (rw c.in-None.is at c.in_ok-answer.ensures.first) c.in_ok-none_text-in-None.ensures
