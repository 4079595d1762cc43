use Rattle.zf_lines.proofs.Prelude.{◌<◌, ◌∙◌, arith}
use Rattle.zf_lines.proofs.LastLine.{cut_behind}
use Rattle.zf_lines.proofs.printed.Printed.cut.Goals as goal

pub returns-clause-line : goal.returns-clause-line
returns-clause-line c ss cs ranges row rest h is =
    let some : 0 < c.args.count = omega arith in
    c.truncate.ensures.items
    ∙ cut_behind c.args.format ss cs ranges row c.args.self.now.parts.items h c.args.self.now.line.items rest c.args.count c.index.result.now some c.requires.there c.index.ensures is
