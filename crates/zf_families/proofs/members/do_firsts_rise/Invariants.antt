use Rattle.zf_families.proofs.Prelude.{◌-◌, ◌≡◌, drop, firsts_rise}
use Rattle.zf_families.proofs.members.do_firsts_rise.Given as goal

abbrev pub invariant-loop-place : goal.invariant-loop-place
invariant-loop-place l = firsts_rise l.r ≡ firsts_rise (drop (l.place - 1) l.r)
