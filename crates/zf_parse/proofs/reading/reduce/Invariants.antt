use Rattle.zf_parse.proofs.Reducing.{Reduced}
use Rattle.zf_parse.proofs.reading.reduce.Given as goal

-- the symbols kept so far, and what the others leave, are the whole
abbrev pub invariant-loop-i : goal.invariant-loop-i
invariant-loop-i l = Reduced l.initial.symbols.items l.symbols.items l.i l.kept l.drops
