use Rattle.zf_parts.proofs.Prelude.{◌<◌, ◌≡◌, ◌∙◌, [], ap, get_or, length, refl, subst, sym, get_or_default, slice_get_read, slice_get, ranges_at, slice_get-picked}
use Rattle.zf_parts.proofs.Numbering.{range_there}
use Rattle.zf_parts.proofs.part_row.value_at.Goals as goal

pub returns : goal.returns
returns c =
    let ranges = c.args.ranges.now in
    let places = c.args.places.now in
    let place = get_or places c.args.i 0 in
    let items = c.range.inside.values.items in
    let inside : place < length ranges = c.requires.below c.args.i 0 c.requires.place in
    let there : get_or ranges place c.index-ranges-places.result ≡ items = sym c.index-ranges-places.is ∙ sym c.range.view_is in
    let range : get_or (ranges_at ranges places) c.args.i [] ≡ items =
    range_there ranges places c.args.i c.requires.place ∙ get_or_default ranges place [] c.index-ranges-places.result inside ∙ there in
    let low : get_or c.args.digits.now c.args.i 0 < length items = subst (λ r. get_or c.args.digits.now c.args.i 0 < length r) range (c.requires.within.each c.args.i c.requires.index) in
    slice_get-picked (ranges_at ranges places) c.args.digits.now c.args.i c.requires.within c.requires.index
    ∙ ap (λ r. slice_get r (get_or c.args.digits.now c.args.i 0)) range
    ∙ slice_get_read items (length items) (get_or c.args.digits.now c.args.i 0) c.index.result.now refl low c.index.ensures
