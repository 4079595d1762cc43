use Rattle.zf_plan.proofs.Prelude.{◌≡◌, trees_of, true, IsBare, IsLayer}
use Rattle.zf_plan.proofs.Numbers.{AreSoFar}
use Rattle.zf_plan.proofs.plan.Plan.new.Given as goal

-- There is a layer for each number so far, a bare one where the plan is plain.
abbrev pub invariant-loop-number : goal.invariant-loop-number
invariant-loop-number g l =
    AreSoFar (λ k layer. IsLayer (g.J.Judge.conjuncts l.judge) (g.J.Judge.is_used l.judge) (trees_of l.forest) k layer × (l.is_plain ≡ true → IsBare layer)) l.number l.layers.items
