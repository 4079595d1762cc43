use Rattle.std.proofs.Common.{length, sym, ap, ◌∙◌}
use Rattle.zf_walk.proofs.Picks.{length-picked}
use Rattle.zf_walk.proofs.picked.PickedRow.len.Goals as goal

pub returns : goal.returns
returns g c = sym (length-picked c.self.inside.ranges.now c.self.inside.places.now c.self.invariant) ∙ ap length c.self.view_is
