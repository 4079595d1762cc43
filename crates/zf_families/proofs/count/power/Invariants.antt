use Rattle.zf_families.proofs.Prelude.{◌+◌, ◌^◌, ◌≡◌, min, SET_MAX}
use Rattle.zf_families.proofs.count.power.Given as goal

abbrev pub invariant-loop-turn : goal.invariant-loop-turn
invariant-loop-turn l = l.count ≡ min (l.base ^ l._turn) (SET_MAX + 1)
