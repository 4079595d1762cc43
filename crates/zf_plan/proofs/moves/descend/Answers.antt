use Rattle.zf_plan.proofs.Prelude.{◌∙◌, ◌≡◌, [], ap, arith, get_or, length, None, subst, sym, get_or_default, range-is, IsNextChoice, Lands, Place}
use Rattle.zf_plan.proofs.moves.descend.Goals as goal

pub returns-clause-lands : goal.returns-clause-lands
returns-clause-lands g c =
    let p : Place = c.args.place.now in
    let v = c.range.inside.values in
    let range = range-is c.args.ranges.now p.depth c.index-ranges-depth.result c.requires.deeper c.index-ranges-depth.is in
    let end : c.len-end.result ≡ length (get_or c.args.ranges.now p.depth []) = omega (arith, c.len-end.ensures, v.ok.0, ap length c.range.view_is, ap length range) in
    let choice : c.index-choices-depth.result ≡ get_or c.args.choices.now p.depth None = c.index-choices-depth.is
    ∙ sym (get_or_default c.args.choices.now p.depth None c.index-choices-depth.result (omega (arith, c.requires.deeper, c.requires.choices))) in
    (c.next-next.result, subst (λ h. IsNextChoice h 0 c.next-next.result) choice c.next-next.ensures, subst (λ n. Lands n p.depth c.next-next.result p c.land.new.place) end c.land.ensures)
