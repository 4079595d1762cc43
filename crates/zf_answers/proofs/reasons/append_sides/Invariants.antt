use Rattle.zf_answers.proofs.Prelude.{◌++◌, ◌≡◌, drop, flat_map, schema_in, side_lines}
use Rattle.zf_answers.proofs.reasons.append_sides.Given as goal

abbrev pub invariant-loop-side : goal.invariant-loop-side
invariant-loop-side l =
    l.lines.items ++ flat_map (side_lines l.report.file.now l.report.source.now (schema_in l.subject).comps) (drop l.side-index l.sides)
    ≡ l.fn.lines.items ++ flat_map (side_lines l.report.file.now l.report.source.now (schema_in l.subject).comps) l.sides
