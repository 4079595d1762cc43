use Rattle.std.proofs.Common.{◌∙◌}
use Rattle.zf_lines.proofs.Keeping.{one_more_text}
use Rattle.zf_lines.proofs.column.Column.keep.Goals as goal

pub returns-in_ok-text-clause-kept : goal.returns-in_ok-text-clause-kept
returns-in_ok-text-clause-kept c f h is = one_more_text f _ _ _ (c.make_slot.ensures.kept f h) (c.in_ok-text.ensures ∙ is)
