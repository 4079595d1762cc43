use Rattle.zf_why.proofs.Prelude.{map, take, comp_of, conjunct_of, environment_of, AreAlone}
use Rattle.zf_why.proofs.explaining.all_alone.Given as goal

abbrev pub invariant-loop-place : goal.invariant-loop-place
invariant-loop-place l = AreAlone (environment_of l.setting.env.now) (map comp_of l.setting.components.now) l.setting.held.now (take l.place (map conjunct_of l.conjuncts)) l.alone.items
