use Rattle.zf_lines.proofs.Prelude.{◌++◌, ◌∙◌, ap, append_assoc, codes, sym, schema_of, row_line, out_line}
use Rattle.zf_format.specs.declared.format.Format.TheVariants.{Lines}
use Rattle.zf_lines.proofs.Fronts.{weaker_on_ok}
use Rattle.zf_lines.proofs.texts.append_out_line.Goals as goal

pub returns-in_ok-extend_from_slice-in-Lines : goal.returns-in_ok-extend_from_slice-in-Lines
returns-in_ok-extend_from_slice-in-Lines g c =
    let ss = c.args.elements.now in
    let comps = (schema_of c.args.flat.now).comps in
    let row = g.R.Row.values c.args.row.now in
    let line = row_line Lines ss comps row in
    weaker_on_ok c.append_row_line.result
    (λ e. e ∙ ap (λ f. c.extend_from_slice.new.self.items ++ row_line f ss comps row) c.in-Lines.is ∙ ap (λ l. l ++ line) c.in_ok-extend_from_slice-in-Lines.ensures.items
    ∙ append_assoc c.args.line.now.items (codes "out of bounds at: ") line ∙ ap (λ f. c.args.line.now.items ++ out_line f ss comps row) (sym c.in-Lines.is))
    c.append_row_line.ensures
