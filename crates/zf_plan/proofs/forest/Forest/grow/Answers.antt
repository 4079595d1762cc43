use Rattle.zf_plan.proofs.Prelude.{◌≡◌, arith, length, refl, subst, sym, Grove, Grows, IsOver, tree_of, trees_made}
use Rattle.zf_plan.proofs.Groves.{grown, grown-still}
use Rattle.zf_plan.proofs.forest.Forest.grow.Goals as goal

pub invariant_of-self-2 : goal.invariant_of-self-2
invariant_of-self-2 c =
    let old : Grove = record { nodes = c.self.inside.nodes.items; roots = c.self.inside.roots.items } in
    let new : Grove = record { nodes = c.push.new.self.items; roots = c.self.inside.roots.items } in
    grown-still old new c.args.node c.self.invariant (subst (λ g. IsOver (length (trees_made g)) c.args.node) (sym c.self.view_is) c.requires) c.in_ok-push.ensures.items refl

pub returns-clause-ok : goal.returns-clause-ok
returns-clause-ok c =
    let old : Grove = record { nodes = c.self.inside.nodes.items; roots = c.self.inside.roots.items } in
    let new : Grove = record { nodes = c.push.new.self.items; roots = c.self.inside.roots.items } in
    let place : length c.self.inside.nodes.items ≡ c.len-place.result = omega (arith, c.len-place.ensures, c.self.inside.nodes.ok.0) in
    subst (λ g. Grows g (tree_of (trees_made g) c.args.node) c.len-place.result new) c.self.view_is
    (subst (λ n. Grows old (tree_of (trees_made old) c.args.node) n new) place (grown old new c.args.node c.self.invariant c.in_ok-push.ensures.items refl))
