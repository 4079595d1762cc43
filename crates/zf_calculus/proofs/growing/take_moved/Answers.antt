use Rattle.zf_calculus.proofs.Prelude.{◌∙◌, ◌≡◌, List, refl, subst, ℕ, on_ok_weaker, place_in, ResolvedTree, moved}
use Rattle.zf_calculus.proofs.Renumbering.{taken_as_they_are}
use Rattle.zf_calculus.proofs.growing.take_moved.Goals as goal

pub returns-then-are_own : goal.returns-then-are_own
returns-then-are_own c =
    let places = c.args.places.now in
    let same = subst (λ (ps : List ℕ). (t : ResolvedTree) → moved (place_in ps) t ≡ t) (c.as_slice.ensures ∙ c.get.ensures) (c.if-are_own.ensures refl) in
    on_ok_weaker c.take.result (taken_as_they_are (place_in places) c.args.conjuncts.now c.take.new.self c.args.further same) c.take.ensures
