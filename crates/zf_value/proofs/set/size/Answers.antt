use Rattle.zf_value.proofs.Prelude.{to_z-of_z, IsSize, sym, subst, ◌∙◌, w64, FitsSigned}
use Rattle.zf_value.proofs.Exactly.{is_number}
use Rattle.zf_value.proofs.set.size.Goals as goal

pub returns-in-Ok : goal.returns-in-Ok
unfolding IsSize
returns-in-Ok c =
    let fits : FitsSigned w64 c.in-Ok.n = subst (FitsSigned w64) (sym c.in-Ok.ensures.1) c.in-Ok.ensures.0 in
    rw (← c.members.ensures.is) (is_number _ _ (to_z-of_z w64 c.in-Ok.n fits ∙ c.in-Ok.ensures.1) c.in-Ok.ensures.0)

pub returns-in-Err : goal.returns-in-Err
unfolding IsSize
returns-in-Err c = rw (← c.members.ensures.is) c.in-Err.ensures
