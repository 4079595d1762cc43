use Rattle.zf_value.proofs.Prelude.{subst, IsSelected, IsGathered, Others, First, Whole}
use Rattle.zf_value.proofs.Compositions.{overriding_made}
use Rattle.zf_value.proofs.relation.overriding.Goals as goal

pub returns : goal.returns
returns c =
    let kept = subst (λ xs. IsGathered (IsSelected First Others xs Whole) c.members.result.now c.in_ok-values.values.items) c.as_slice.ensures.value c.in_ok-values.ensures in
    rw (← c.members-over.ensures.is, ← c.members.ensures.is) (overriding_made _ _ _ _ _ _ _ c.in_ok-firsts.ensures c.in_ok-make_ascending.ensures.members kept
    c.in_ok-copy_onto.ensures c.display.ensures)
