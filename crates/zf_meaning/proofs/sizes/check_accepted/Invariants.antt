use Rattle.zf_meaning.proofs.Prelude.{take, AreAccepted}
use Rattle.zf_meaning.proofs.sizes.check_accepted.Given as goal

abbrev pub invariant-loop-i : goal.invariant-loop-i
invariant-loop-i l = AreAccepted l.sets (take l.i l.sizes)
