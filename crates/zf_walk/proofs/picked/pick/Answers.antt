use Rattle.zf_walk.proofs.Prelude.{◌<◌, ◌∙◌, ◌≡◌, [], ap, arith, get_or, length, refl, subst, sym, get_or_default, slice_get_read, slice_get}
use Rattle.zf_walk.proofs.Picks.{slice_get-picked}
use Rattle.zf_walk.proofs.picked.pick.Goals as goal

pub returns : goal.returns
returns g c =
    let ranges = c.args.ranges.now in
    let i = c.args.i in
    let k = get_or c.args.places.now i 0 in
    let items = c.range.inside.values.items in
    let near : i < length ranges = omega (arith, c.requires.within.few, c.requires.index) in
    let range : get_or ranges i [] ≡ items = get_or_default ranges i [] c.index-ranges-i.result near ∙ sym c.index-ranges-i.is ∙ sym c.range.view_is in
    let inside : k < length items = subst (λ r. k < length r) range (c.requires.within.each i c.requires.index) in
    slice_get-picked ranges c.args.places.now i c.requires.within c.requires.index
    ∙ ap (λ r. slice_get r k) range ∙ slice_get_read items (length items) k c.index.result.now refl inside c.index.ensures
