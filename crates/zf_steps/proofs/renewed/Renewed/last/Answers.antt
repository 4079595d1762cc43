-- It may be begun again.
use Rattle.zf_steps.proofs.Prelude.{◌∙◌, Bool, List, subst, sym, AreMarkedHeld}
use Rattle.zf_steps.proofs.Renewing.{can_hold}
use Rattle.zf_steps.proofs.renewed.Renewed.last.Goals as goal

pub returns-then-are_held_again-clause-again : goal.returns-then-are_held_again-clause-again
returns-then-are_held_again-clause-again c =
    can_hold c.args.self.now c.requires.0 c.requires.1 c.in-Some.search c.args.held.now (sym c.take.ensures.value ∙ c.in-Some.is) c.requires.2
    (subst (λ (given : List Bool). AreMarkedHeld given c.args.held.now) c.deref.ensures.value (c.are_held_again.ensures c.if-are_held_again.true))
