use Rattle.std.proofs.Common.{◌∙◌}
use Rattle.zf_term.proofs.Places.{composed}
use Rattle.zf_term.proofs.conjunct.composed.Goals as goal

pub returns-in_ok-new-in-Some-Some : goal.returns-in_ok-new-in-Some-Some
returns-in_ok-new-in-Some-Some c =
    composed _ _ _ _ _ _ _ _ c.in-Some-Some.is-0 c.in-Some-Some.is-1 (c.as_slice.ensures ∙ c.get.ensures)
    (c.as_slice-in-Some-Some.ensures ∙ c.get-in-Some-Some.ensures) c.in_ok-new-in-Some-Some.ensures c.in_ok-places-in-Some-Some.ensures
