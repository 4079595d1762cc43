use Rattle.zf_why.proofs.Prelude.{map, take, comp_of, environment_of, ArePicked, HasNoValue, HasValue}
use Rattle.zf_why.proofs.explaining.empty_ranges.Given as goal

abbrev pub invariant-loop-place : goal.invariant-loop-place
invariant-loop-place l = let e = environment_of l.setting.env.now in ArePicked (HasNoValue e l.setting.held.now) (HasValue e l.setting.held.now)
    (take l.place (map comp_of l.setting.components.now)) l.empty.items
