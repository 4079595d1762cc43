use Rattle.zf_plan.proofs.Prelude.{◌+◌, ◌-◌, ◌<◌, ◌∙◌, ◌≡◌, [], ap, arith, get_or, length, None, subst, sym, get_or_default, range-is, IsNextChoice, Lands, Place}
use Rattle.zf_plan.proofs.moves.retreat.Goals as goal

pub returns-clause-lands : goal.returns-clause-lands
returns-clause-lands g c =
    let p : Place = c.args.place.now in
    let k = p.depth - 1 in
    let v = c.range.inside.values in
    let near : k < length c.args.ranges.now = omega (arith, c.requires.at.shallow, c.requires.below) in
    let held : k < length p.places.items = omega (arith, c.requires.at.all_places) in
    let range = range-is c.args.ranges.now k c.index-ranges-last.result near c.index-ranges-last.is in
    let end : c.len-end.result ≡ length (get_or c.args.ranges.now k []) = omega (arith, c.len-end.ensures, v.ok.0, ap length c.range.view_is, ap length range) in
    let i : c.index.result.now ≡ get_or p.places.items k 0 = c.index.ensures ∙ sym (get_or_default p.places.items k 0 c.index.result.now held) in
    let choice : c.index-choices-last.result ≡ get_or c.args.choices.now k None = c.index-choices-last.is
    ∙ sym (get_or_default c.args.choices.now k None c.index-choices-last.result (omega (arith, near, c.requires.choices))) in (
      c.next-next.result,
      subst (λ j. IsNextChoice (get_or c.args.choices.now k None) (j + 1) c.next-next.result) i (subst (λ h. IsNextChoice h (c.index.result.now + 1) c.next-next.result) choice c.next-next.ensures),
      subst (λ n. Lands n k c.next-next.result p c.land.new.place) end c.land.ensures,
    )
