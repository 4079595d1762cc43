use Rattle.zf_answers.proofs.Prelude.{◌++◌, ◌≡◌, drop, empty_lines, schema_in}
use Rattle.zf_cores.specs.{chosen_of}
use Rattle.zf_answers.proofs.reasons.append_all_empty.Given as goal

abbrev pub invariant-loop-place : goal.invariant-loop-place
invariant-loop-place l =
    l.lines.items ++ empty_lines l.subject.style.now.format l.report.file.now l.report.source.now (chosen_of (drop l.place (schema_in l.subject).comps) (drop l.place l.chosen))
    ≡ l.fn.lines.items ++ empty_lines l.subject.style.now.format l.report.file.now l.report.source.now (chosen_of (schema_in l.subject).comps l.chosen)
