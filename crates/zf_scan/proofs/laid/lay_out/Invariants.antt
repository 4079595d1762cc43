use Rattle.zf_scan.proofs.Prelude.{take, IsLaid}
use Rattle.zf_scan.proofs.laid.lay_out.Given as goal

abbrev pub invariant-loop-i : goal.invariant-loop-i
invariant-loop-i l = IsLaid l.laid.text.items l.laid.symbols.items (take l.i l.tokens)
