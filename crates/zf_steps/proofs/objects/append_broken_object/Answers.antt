-- What can't be decided, with its newline.
use Rattle.zf_steps.proofs.Prelude.{◌++◌, codes, weaker_on_ok}
use Rattle.zf_steps.proofs.Pieces.{if_appended, three_pieces}
use Rattle.zf_steps.proofs.objects.append_broken_object.Goals as goal

pub returns : goal.returns
returns c =
    weaker_on_ok c.extend_from_slice-3.result
    (three_pieces c.args.line.now.items (codes "{\"out of bounds at\": ") c.args.stop.now
    (codes "}\n") c.extend_from_slice.new.self.items c.extend_from_slice-2.new.self.items c.extend_from_slice-3.new.self.items
    c.in_ok-extend_from_slice.ensures.items c.in_ok-extend_from_slice-2.ensures.items)
    (if_appended c.extend_from_slice-3.result c.extend_from_slice-3.new.self.items
    (c.extend_from_slice-2.new.self.items ++ codes "}\n") c.extend_from_slice-2.new.self.items c.extend_from_slice-3.ensures.items)
