use Rattle.zf_families.proofs.Prelude.{◌∷◌, ◌≡◌, [], map, take, pair}
use Rattle.zf_families.proofs.arrow.single_pairs.Given as goal

abbrev pub invariant-loop-x : goal.invariant-loop-x
invariant-loop-x l = l.rows.items ≡ [] ∷ map (λ x. pair x l.y ∷ []) (take l.x-index l.a)
