use Rattle.std.proofs.Common.{◌≡◌, take}
use Rattle.zf_families.proofs.rows.copied.Given as goal

abbrev pub invariant-loop-value : goal.invariant-loop-value
invariant-loop-value l = l.items.items ≡ take l.value-index l.values
