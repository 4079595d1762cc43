use Rattle.zf_why.proofs.Prelude.{◌≡◌, take}
use Rattle.zf_why.proofs.setting.shared.Given as goal

abbrev pub invariant-loop-conjunct : goal.invariant-loop-conjunct
invariant-loop-conjunct l = l.same ≡ take l.conjunct-index l.conjuncts
