-- The ranges up to here are exchanged, the others are still to be.
use Rattle.zf_plan.proofs.Prelude.{◌≡◌, ◌+◌, ◌++◌, length, take, drop, into_iter_items, exchanged}
use Rattle.zf_plan.proofs.search.with_others.Given as goal

abbrev pub invariant-loop-other : goal.invariant-loop-other
invariant-loop-other g l = record {
  whole : exchanged l.initial.ranges.items (into_iter_items l.initial.other-iterator) ≡ take l.place l.ranges.items ++ exchanged (drop l.place l.ranges.items) (into_iter_items l.other-iterator);
  each : length l.ranges.items ≡ length l.initial.ranges.items;
  ahead : l.place + length (into_iter_items l.other-iterator) ≡ length l.ranges.items;
}
