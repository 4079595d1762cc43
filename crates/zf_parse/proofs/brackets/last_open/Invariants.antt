use Rattle.zf_parse.proofs.Prelude.{◌≤◌, length}
use Rattle.zf_parse.proofs.brackets.last_open.Given as goal

abbrev pub invariant-loop-at : goal.invariant-loop-at
invariant-loop-at l = l.at ≤ length l.symbols

abbrev pub decreases-loop-at : goal.decreases-loop-at
decreases-loop-at l = l.at
