use Rattle.zf_enum.proofs.Prelude.{◌≡◌, ◌∙◌, [], arith, environment_of, get_or, range-is, resolved_of, slice_get, Some, subst, sym, get_or_from_slice_get}
use Rattle.zf_enum.proofs.Equations.{some_weaker}
use Rattle.zf_enum.proofs.Keying.{key-alone}
use Rattle.zf_enum.proofs.keys.key_at.Goals as goal

pub returns : goal.returns
returns c =
    let o = c.in_ok-outcome.outcome in
    let ranges = c.args.ranges.now in
    let k = c.args.component in
    let xs = c.range.inside.values.items in
    let w = c.index-value.result.now in
    let near = c.if-component-ranges.false in
    let column : get_or ranges k [] ≡ xs =
    range-is ranges k c.index-ranges-component.result (omega (arith, near)) c.index-ranges-component.is ∙ sym c.range.view_is in
    some_weaker c.key_of.result _ _ (λ n is v at.
    let here = subst (λ r. slice_get r c.args.place ≡ Some v) column at in
    let same : w ≡ v = c.index-value.ensures ∙ get_or_from_slice_get xs c.args.place v w here in
    let more = c.in-Some.ensures.1 in
    key-alone (environment_of c.args.env.now) w v (resolved_of c.args.side.now) k n c.in-Some.count c.requires (omega (arith, more)) same
    (o, c.in_ok-outcome.ensures, is)) c.key_of.ensures
