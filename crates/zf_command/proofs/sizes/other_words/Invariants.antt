-- Those of the words so far.
use Rattle.zf_command.proofs.Prelude.{◌≡◌, map, take, other_words}
use Rattle.zf_command.proofs.sizes.other_words.Given as goal

abbrev pub invariant-loop-word : goal.invariant-loop-word
invariant-loop-word l = l.others ≡ other_words (take l.word-index (map (λ w. w.now) l.words))
