use Rattle.zf_families.proofs.Prelude.{◌+◌, ◌≡◌, min, SET_MAX, falling}
use Rattle.zf_families.proofs.count.falling.Given as goal

abbrev pub invariant-loop-turn : goal.invariant-loop-turn
invariant-loop-turn l = l.count ≡ min (falling l.from l.turn) (SET_MAX + 1)
