use Rattle.std.proofs.Common.{rules, ◌∷◌, ◌++◌, [], ◌∙◌, ap, inl, inr, refl}
use Rattle.zf_ranges.specs.{Grows}
use Rattle.zf_ranges.proofs.kept.keep.Goals as goal

pub returns-in_ok-push : goal.returns-in_ok-push
unfolding Grows
returns-in_ok-push g c =
    let passes : g.T.Test.passes c.args.test.now c.args.value.now = search rules in
    inl (passes, c.in_ok-push.ensures.items ∙ ap (λ z. c.args.out.now.items ++ (z ∷ [])) c.in_ok-copy.ensures)

pub returns-else-admits : goal.returns-else-admits
unfolding Grows
returns-else-admits g c = inr (λ p. (cc (c.admits.ensures.1 p)), refl)
