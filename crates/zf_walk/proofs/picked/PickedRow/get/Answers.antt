use Rattle.std.proofs.Common.{◌<◌, length, sym, ap, ◌∙◌, subst}
use Rattle.zf_walk.proofs.Picks.{length-picked}
use Rattle.zf_walk.proofs.picked.PickedRow.get.Goals as goal

pub pick-requires-clause-index : goal.pick-requires-clause-index
pick-requires-clause-index g c =
    subst (λ n. c.args.i < n) (sym (ap length c.self.view_is) ∙ length-picked c.self.inside.ranges.now c.self.inside.places.now c.self.invariant) c.requires
