use Rattle.zf_unfold.proofs.Prelude.{[], ◌∷◌, environment_of, Undefined, on_ok_weaker, further}
use Rattle.zf_unfold.proofs.Steps.{base_added}
use Rattle.zf_unfold.proofs.unfolding.again.Goals as goal

pub returns-clause-grows : goal.returns-clause-grows
returns-clause-grows c = on_ok_weaker c.once.result (λ h. further _ _ _ (Undefined ∷ [], c.in_ok-add.ensures) h) c.once.ensures.grows

pub returns-clause-same : goal.returns-clause-same
returns-clause-same c = λ h. c.once.ensures.same (environment_of c.args.own.now) (base_added _ _ _ c.count-count.ensures h c.in_ok-add.ensures)
