use Rattle.zf_answers.proofs.WhyAnswers.{of_schema, why_none}
use Rattle.zf_answers.proofs.why.none_text.Goals as goal

pub cause_lines-requires : goal.cause_lines-requires
cause_lines-requires c = of_schema _ _ _ _ _ _ c.in_ok-cause.ensures

pub returns : goal.returns
returns c =
    why_none c.args.subject.now c.args.report.details c.args.report.file.now c.args.report.source.now c.cause_lines.result c.in_ok-cause.cause
    c.in_ok-cause.ensures c.cause_lines.ensures
