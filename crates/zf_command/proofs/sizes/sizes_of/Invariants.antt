-- The words so far are read as the sizes so far.
use Rattle.zf_command.proofs.Prelude.{map, take, AllZip, ReadsSize}
use Rattle.zf_command.proofs.sizes.sizes_of.Given as goal

abbrev pub invariant-loop-word : goal.invariant-loop-word
invariant-loop-word l = AllZip ReadsSize (map (λ w. w.now) (take l.word-index l.words)) l.sizes
