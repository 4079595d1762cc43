use Rattle.zf_scan.proofs.Prelude.{◌-◌, length, IsCutUpTo}
use Rattle.zf_scan.proofs.scan.scan.Given as goal

-- the tokens so far are those up to the border
abbrev pub invariant-loop-border : goal.invariant-loop-border
invariant-loop-border l = IsCutUpTo l.source l.border l.tokens

abbrev pub decreases-loop-border : goal.decreases-loop-border
decreases-loop-border l = length l.source - l.border.start
