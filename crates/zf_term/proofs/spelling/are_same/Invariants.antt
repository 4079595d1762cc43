use Rattle.zf_term.proofs.Prelude.{◌≡◌, length, bytes_eq}
use Rattle.zf_term.proofs.spelling.are_same.Given as goal

abbrev pub invariant-loop-left : goal.invariant-loop-left
invariant-loop-left l = bytes_eq l.left l.right ≡ bytes_eq l.fn.left l.fn.right

abbrev pub decreases-loop-left : goal.decreases-loop-left
decreases-loop-left l = length l.left
