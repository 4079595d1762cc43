use Rattle.std.proofs.Common.{sym, ◌∙◌}
use Rattle.zf_value.proofs.Levels.{compared}
use Rattle.zf_value.proofs.value.+ordering.Goals as goal

pub ValueOrd::cmp-returns : goal.ValueOrd::cmp-returns
ValueOrd::cmp-returns t c = rw (← c.self.view_is, ← c.other.view_is) (c.cmp.ensures ∙ sym (compared c.self.inside.form c.other.inside.form))
