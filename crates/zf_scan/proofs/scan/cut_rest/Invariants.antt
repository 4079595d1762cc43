use Rattle.zf_scan.proofs.Prelude.{◌++◌, ◌-◌, length, List, Follows, IsCutUpTo, Token}
use Rattle.zf_scan.proofs.scan.cut_rest.Given as goal

-- the tokens before, and more of them, are those up to the border
abbrev pub invariant-loop-border : goal.invariant-loop-border
invariant-loop-border l = (tokens : List Token) → IsCutUpTo l.source l.initial.border tokens → (more : List Token) × Follows more × IsCutUpTo l.source l.border (tokens ++ more)

abbrev pub decreases-loop-border : goal.decreases-loop-border
decreases-loop-border l = length l.source - l.border.start
