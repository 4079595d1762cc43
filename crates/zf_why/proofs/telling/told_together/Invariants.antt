use Rattle.zf_why.proofs.Prelude.{map, comp_of, conjunct_of, environment_of, ResolvedTree, ℕ, split_at, IsTelling, others_beside, Told}
use Rattle.zf_why.proofs.Tellings.{AreToldUpTo}
use Rattle.zf_why.proofs.telling.told_together.Given as goal

abbrev pub invariant-loop-place : goal.invariant-loop-place
invariant-loop-place l =
    let ps = map conjunct_of l.conjuncts in
    AreToldUpTo (λ (i : ℕ) (p : ResolvedTree) (t : Told). IsTelling (environment_of l.setting.env.now)
    (map comp_of l.setting.components.now) l.setting.held.now l.setting.details (others_beside ps l.chosen i) (split_at l.conjuncts i) p t) ps
    l.chosen l.place l.told.items
