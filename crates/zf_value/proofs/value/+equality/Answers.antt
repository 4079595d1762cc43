use Rattle.std.proofs.Common.{sym, ◌∙◌}
use Rattle.zf_value.proofs.Levels.{equal_alike}
use Rattle.zf_value.proofs.value.+equality.Goals as goal

pub ValuePartialEq::eq-returns : goal.ValuePartialEq::eq-returns
ValuePartialEq::eq-returns t c = rw (← c.self.view_is, ← c.other.view_is) (c.eq.ensures ∙ sym (equal_alike c.self.inside.form c.other.inside.form))
