use Rattle.zf_enum.proofs.Prelude.{◌≡◌, map, take, range_of}
use Rattle.zf_enum.proofs.spread.copied_ranges.Given as goal

abbrev pub invariant-loop-range : goal.invariant-loop-range
invariant-loop-range l = map range_of l.all ≡ map range_of (take l.range-index l.variables)
