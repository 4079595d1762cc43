use Rattle.zf_cores.proofs.LeftOut.{IsTrimmed}
use Rattle.zf_cores.proofs.trimming.minimal.Given as goal

abbrev pub invariant-loop-place : goal.invariant-loop-place
invariant-loop-place g l = IsTrimmed (g.T.Trial.Possible l.trial) (g.T.Trial.number l.trial) l.place l.chosen.items
