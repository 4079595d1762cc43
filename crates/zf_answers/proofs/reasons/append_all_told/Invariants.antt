use Rattle.zf_answers.proofs.Prelude.{◌++◌, ◌≡◌, drop, schema_in, told_lines}
use Rattle.zf_answers.proofs.reasons.append_all_told.Given as goal

abbrev pub invariant-loop-one : goal.invariant-loop-one
invariant-loop-one l =
    l.lines.items
    ++ told_lines l.subject.style.now.format l.report.details l.report.file.now l.report.source.now (schema_in l.subject).comps l.subject.style.now.elements.now (drop l.one-index l.told)
    ≡ l.fn.lines.items
    ++ told_lines l.subject.style.now.format l.report.details l.report.file.now l.report.source.now (schema_in l.subject).comps l.subject.style.now.elements.now l.told
