use Rattle.zf_answers.proofs.Prelude.{◌++◌, ◌∙◌, ap, flat_map, operands_lines, part_line, schema_in, side_lines}
use Rattle.zf_messages.specs.{detail_line}
use Rattle.zf_answers.specs.{range_details}
use Rattle.zf_answers.proofs.ToldLines.{four_told}
use Rattle.zf_answers.proofs.reasons.append_told_line.Goals as goal

pub returns : goal.returns
returns c =
    let file = c.args.report.file.now in
    let source = c.args.report.source.now in
    let cs = (schema_in c.args.subject.now).comps in
    let told = c.args.told.now in
    four_told c.append_operands.result c.args.lines.now.items (part_line file source cs told.part)
    (flat_map detail_line (range_details c.args.report.details source told.part)) (flat_map (side_lines file source cs) told.sides.items)
    (operands_lines source c.args.subject.now.style.now.elements.now told.operands) _ _ _ _ c.in_ok-append_part_line.ensures
    (c.in_ok-append_detail_lines.ensures ∙ ap (λ range. c.append_part_line.new.lines.items ++ flat_map detail_line range) (c.as_slice.ensures ∙ c.in_ok-range.ensures))
    (c.in_ok-append_sides.ensures ∙ ap (λ sides. c.append_detail_lines.new.text.items ++ flat_map (side_lines file source cs) sides) c.deref.ensures.value)
    c.append_operands.ensures
