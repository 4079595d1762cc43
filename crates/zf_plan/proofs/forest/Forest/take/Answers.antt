use Rattle.std.proofs.Common.{◌<◌, length, refl, sym, subst}
use Rattle.zf_plan.specs.{Grove, Takes, trees_made}
use Rattle.zf_plan.proofs.Groves.{taken, taken-still}
use Rattle.zf_plan.proofs.forest.Forest.take.Goals as goal

pub invariant_of-self-2 : goal.invariant_of-self-2
invariant_of-self-2 c =
    let old : Grove = record { nodes = c.self.inside.nodes.items; roots = c.self.inside.roots.items } in
    let new : Grove = record { nodes = c.self.inside.nodes.items; roots = c.push.new.self.items } in
    taken-still old new c.args.place c.self.invariant (subst (λ g. c.args.place < length (trees_made g)) (sym c.self.view_is) c.requires) refl c.in_ok-push.ensures.items

pub returns-clause-ok : goal.returns-clause-ok
returns-clause-ok c =
    let old : Grove = record { nodes = c.self.inside.nodes.items; roots = c.self.inside.roots.items } in
    let new : Grove = record { nodes = c.self.inside.nodes.items; roots = c.push.new.self.items } in
    subst (λ g. Takes g c.args.place new) c.self.view_is (taken old new c.args.place refl c.in_ok-push.ensures.items)
