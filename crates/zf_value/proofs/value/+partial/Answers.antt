use Rattle.std.proofs.Common.{sym, ◌∙◌}
use Rattle.zf_value.proofs.Levels.{partly_alike}
use Rattle.zf_value.proofs.value.+partial.Goals as goal

pub ValuePartialOrd::partial_cmp-returns : goal.ValuePartialOrd::partial_cmp-returns
ValuePartialOrd::partial_cmp-returns t c = rw (← c.self.view_is, ← c.other.view_is) (c.partial_cmp.ensures ∙ sym (partly_alike c.self.inside.form c.other.inside.form))
