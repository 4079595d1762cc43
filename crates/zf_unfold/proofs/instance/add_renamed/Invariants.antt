use Rattle.zf_unfold.proofs.Prelude.{◌++◌, ◌≡◌, map, take, named_by, range_of, range_renamed}
use Rattle.zf_unfold.proofs.instance.add_renamed.Given as goal

abbrev pub invariant-loop-range : goal.invariant-loop-range
invariant-loop-range l = map range_of l.all ≡ map range_of l.fn.all ++ map (range_renamed (named_by l.renaming)) (map range_of (take l.range-index l.variables))
