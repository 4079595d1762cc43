use Rattle.zf_parse.proofs.Prelude.{◌<◌, length}
use Rattle.zf_parse.proofs.brackets.unclosed.Given as goal

abbrev pub invariant-loop-i : goal.invariant-loop-i
invariant-loop-i l = l.open < length l.symbols
