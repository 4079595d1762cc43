use Rattle.zf_plan.proofs.Prelude.{◌<◌, ◌∙◌, ◌≡◌, ap, arith, leaf, length, length-map, subst, sym, Grove, tree_at, trees_made, trees_of, get_or-map}
use Rattle.zf_plan.proofs.Groves.{root-within}
use Rattle.zf_plan.proofs.forest.Forest.root.Goals as goal

pub returns : goal.returns
returns c =
    let root = c.index.result.now in
    let inside : Grove = record { nodes = c.self.inside.nodes.items; roots = c.self.inside.roots.items } in
    let near = subst (λ g. c.args.conjunct < length (trees_of g)) (sym c.self.view_is) c.requires in
    let listed : c.args.conjunct < length inside.roots = omega (arith, near, length-map inside.roots (tree_at (trees_made inside))) in
    record {
      within = subst (λ g. root < length (trees_made g)) c.self.view_is (root-within inside c.args.conjunct root c.self.invariant near c.index.ensures);
      tree = subst (λ g. tree_at (trees_made g) root ≡ tree_at (trees_of g) c.args.conjunct) c.self.view_is
          (ap (tree_at (trees_made inside)) c.index.ensures ∙ sym (get_or-map (tree_at (trees_made inside)) inside.roots c.args.conjunct root (leaf 0) listed));
    }
