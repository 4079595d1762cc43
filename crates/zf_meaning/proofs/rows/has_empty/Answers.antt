use Rattle.std.proofs.Common.{sym, ◌∙◌}
use Rattle.zf_meaning.proofs.NextRow.{empty-at}
use Rattle.zf_meaning.proofs.rows.has_empty.Goals as goal

pub returns-then-is_empty : goal.returns-then-is_empty
returns-then-is_empty c = empty-at c.args.lists.now c.loop-list.list-index c.list-item.result c.loop-list-test.true c.list-item.is (sym c.is_empty.ensures ∙ c.if-is_empty.true)
