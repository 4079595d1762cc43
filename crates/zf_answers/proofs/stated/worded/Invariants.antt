use Rattle.zf_answers.proofs.Prelude.{◌≡◌, map, take, stated_size}
use Rattle.zf_answers.proofs.stated.worded.Given as goal

abbrev pub invariant-loop-word : goal.invariant-loop-word
invariant-loop-word l = l.sizes.items ≡ map stated_size (take l.word-index l.words)
