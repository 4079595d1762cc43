use Rattle.zf_answers.proofs.Prelude.{◌++◌, ◌≡◌, drop, flat_map, schema_in, side_line, side_lines}
use Rattle.zf_answers.proofs.reasons.append_side.Given as goal

abbrev pub invariant-loop-part : goal.invariant-loop-part
invariant-loop-part l =
    l.lines.items ++ flat_map (side_line l.report.file.now l.report.source.now (schema_in l.subject).comps l.side.span) (drop l.part-index l.side.blamed.items)
    ≡ l.fn.lines.items ++ side_lines l.report.file.now l.report.source.now (schema_in l.subject).comps l.side
