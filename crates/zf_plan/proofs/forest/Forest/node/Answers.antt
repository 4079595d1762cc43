use Rattle.zf_plan.proofs.Prelude.{◌<◌, ◌≡◌, ap, arith, length, refl, subst, slice_get_read, tree_of, trees_made, tree_at}
use Rattle.zf_plan.proofs.Groves.{length-made, made-at}
use Rattle.zf_plan.proofs.forest.Forest.node.Goals as goal

pub index-requires : goal.index-requires
index-requires c = omega (arith, length-made c.args.self.now, ap (λ g. length g.nodes) c.self.view_is, c.self.inside.nodes.ok.0)

pub returns-clause-over : goal.returns-clause-over
returns-clause-over c =
    let items = c.self.inside.nodes.items in
    let inside : c.args.place < length items = omega (arith, length-made c.args.self.now, ap (λ g. length g.nodes) c.self.view_is) in
    c.self.invariant.over c.args.place c.index.result.now (slice_get_read items (length items) c.args.place c.index.result.now refl inside c.index.ensures)

pub returns-clause-tree : goal.returns-clause-tree
returns-clause-tree c =
    let items = c.self.inside.nodes.items in
    let inside : c.args.place < length items = omega (arith, length-made c.args.self.now, ap (λ g. length g.nodes) c.self.view_is) in
    subst (λ g. tree_at (trees_made g) c.args.place ≡ tree_of (trees_made g) c.index.result.now) c.self.view_is
    (made-at (record { nodes = items; roots = c.self.inside.roots.items }) c.args.place c.index.result.now c.self.invariant
    (slice_get_read items (length items) c.args.place c.index.result.now refl inside c.index.ensures))
