use Rattle.zf_instances.proofs.Prelude.{◌++◌, ◌∷◌, ◌≡◌, [], arith, length, List, subst, sym, ℕ, IfOk-weaker, Grows, leaf, resolved_of, Resolved, Plants}
use Rattle.zf_instances.proofs.Planted.{plants_leaf}
use Rattle.zf_instances.proofs.planting.plant_leaf.Goals as goal

pub returns : goal.returns
returns c =
    let xs = c.args.leaves.now.items in
    let x = c.in_ok-copy.field-0 in
    let next : c.len-leaf.result ≡ length xs = omega (arith, c.len-leaf.ensures, c.args.leaves.now.ok.0) in
    IfOk-weaker c.leaf.result _ _
    (λ place r. subst (λ (ys : List Resolved). Plants xs c.args.forest.now (resolved_of c.args.term.now) place ys c.leaf.new.self) (sym c.in_ok-push.ensures.items)
    (subst (λ (z : Resolved). Plants xs c.args.forest.now (resolved_of z) place (xs ++ x ∷ []) c.leaf.new.self) c.in_ok-copy.ensures
    (plants_leaf xs c.args.forest.now c.leaf.new.self x place (subst (λ (n : ℕ). Grows c.args.forest.now (leaf n) place c.leaf.new.self) next r)))) c.leaf.ensures.ok
