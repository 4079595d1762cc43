use Rattle.zf_term.proofs.Prelude.{◌≡◌, length, map, take, type_of}
use Rattle.zf_term.proofs.ztype.+same.Given as goal

abbrev pub invariant-same_all-loop-i : goal.invariant-same_all-loop-i
invariant-same_all-loop-i l = (take l.i (map type_of l.parts) ≡ take l.i (map type_of l.others)) × (length l.parts ≡ length l.others)
