use Rattle.zf_enum.proofs.Prelude.{◌≡◌, List, Some, subst, AllPairs, slice_get, Less, value_order, Value}
use Rattle.zf_enum.proofs.Standing.{found_at, found_none}
use Rattle.zf_enum.proofs.candidates.place_of.Goals as goal

pub returns-in-Ok : goal.returns-in-Ok
returns-in-Ok c = λ i at.
    let xs = c.deref.result.now in
    let same : c.args.range.now ≡ xs = (cc) in
    found_at c.args.value.now xs c.in-Ok.place i (subst (λ (ys : List Value). AllPairs (λ v w. value_order v w ≡ Less) ys) same c.requires)
    c.in-Ok.ensures.bound c.in-Ok.ensures.position (subst (λ (ys : List Value). slice_get ys i ≡ Some c.args.value.now) same at)

pub returns-in-Err : goal.returns-in-Err
returns-in-Err c = λ i at.
    let xs = c.deref.result.now in
    let same : c.args.range.now ≡ xs = (cc) in
    absurd (found_none c.args.value.now xs c.in-Err.field-0 i (subst (λ (ys : List Value). AllPairs (λ v w. value_order v w ≡ Less) ys) same c.requires)
    c.in-Err.ensures.position (subst (λ (ys : List Value). slice_get ys i ≡ Some c.args.value.now) same at))
