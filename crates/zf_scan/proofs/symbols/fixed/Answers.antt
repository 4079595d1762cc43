use Rattle.std.proofs.Common.{rules}
use Rattle.zf_scan.proofs.Table.{empty_unlisted, lone_unlisted}
use Rattle.zf_scan.proofs.symbols.fixed.Goals as goal

pub returns-in-empty : goal.returns-in-empty
returns-in-empty c = empty_unlisted c.args.text.now c.in-empty.len_below

pub returns-in-92-2 : goal.returns-in-92-2
returns-in-92-2 c = lone_unlisted c.args.text.now c.in-92-2.len_below (search rules)
