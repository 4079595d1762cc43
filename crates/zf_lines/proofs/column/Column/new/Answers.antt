use Rattle.zf_lines.proofs.Keeping.{none_kept}
use Rattle.zf_lines.proofs.column.Column.new.Goals as goal

pub returns-clause-none : goal.returns-clause-none
returns-clause-none c f = none_kept f _ c.new.ensures.items
