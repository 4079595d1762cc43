use Rattle.zf_walk.proofs.Prelude.{◌∙◌, ap, length, ltb, sym, take, option_copied, picked, is_reached, reaches}
use Rattle.zf_walk.proofs.Picks.{length-picked}
use Rattle.zf_walk.proofs.reach.is_reached.Goals as goal

pub returns-in-Some : goal.returns-in-Some
returns-in-Some g c =
    let row = picked c.args.ranges.now c.args.places.now in
    let n = length c.args.ranges.now in
    c.reaches.ensures
    ∙ ap (λ k. reaches g.V.Ord.cmp (ltb k n) (take k c.in-Some.named.now) row) (sym (length-picked c.args.ranges.now c.args.places.now c.requires.within))
    ∙ ap (λ a. is_reached g.V.Ord.cmp a n row) (sym (ap option_copied c.in-Some.is))
