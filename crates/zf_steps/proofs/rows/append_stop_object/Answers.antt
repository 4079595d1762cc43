-- The members of what is said of a binding that is out.
use Rattle.zf_steps.proofs.Prelude.{◌++◌, codes, weaker_on_ok, binding_object}
use Rattle.zf_format.specs.{string_text}
use Rattle.zf_steps.proofs.Pieces.{five_pieces, if_appended}
use Rattle.zf_steps.proofs.rows.append_stop_object.Goals as goal

pub returns : goal.returns
returns g c =
    weaker_on_ok c.extend_from_slice-3.result
    (five_pieces c.args.text.now.items (codes "{\"operation\": ") (string_text c.args.operation.now.name.now) (codes ", \"binding\": ")
    (binding_object c.args.elements.now (g.F.Schematic.schema c.args.operation.now.schema.now).comps (g.R.Row.values c.args.row.now)) (codes "}")
    c.extend_from_slice.new.self.items c.append_string.new.text.items c.extend_from_slice-2.new.self.items c.append_row.new.text.items c.extend_from_slice-3.new.self.items
    c.in_ok-extend_from_slice.ensures.items c.in_ok-append_string.ensures c.in_ok-extend_from_slice-2.ensures.items c.in_ok-append_row.ensures)
    (if_appended c.extend_from_slice-3.result c.extend_from_slice-3.new.self.items
    (c.append_row.new.text.items ++ codes "}") c.append_row.new.text.items c.extend_from_slice-3.ensures.items)
