use Rattle.zf_lines.proofs.Prelude.{map, subst, sym, comp_of, AreColumns}
use Rattle.zf_lines.proofs.LastLine.{none_printed}
use Rattle.zf_lines.proofs.printed.Printed.new.Goals as goal

pub returns : goal.returns
returns c ranges =
    let columns = subst (λ (there : _). AreColumns c.args.style.now.format c.args.style.now.elements.now (map comp_of c.args.flat.now.components) ranges there.items) (sym c.begin.ensures.columns)
    (c.in_ok-columns.ensures ranges) in
    none_printed _ _ _ ranges c.begin.new.self columns c.in_ok-begin.ensures.line c.begin.ensures.parts
