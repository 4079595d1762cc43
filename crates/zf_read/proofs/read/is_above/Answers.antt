use Rattle.std.proofs.Common.{sym}
use Rattle.zf_read.proofs.Ascending.{above_iff}
use Rattle.zf_read.proofs.read.is_above.Goals as goal

pub returns-in-Some : goal.returns-in-Some
returns-in-Some c = above_iff c.args.members.now c.in-Some.last.now c.args.value.now c.cmp.result c.is_lt.result (sym c.in-Some.ensures.value) c.requires c.cmp.ensures c.is_lt.ensures
