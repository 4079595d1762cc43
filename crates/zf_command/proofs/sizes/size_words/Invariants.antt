-- Those of the words so far.
use Rattle.zf_command.proofs.Prelude.{◌≡◌, map, take, size_words}
use Rattle.zf_command.proofs.sizes.size_words.Given as goal

abbrev pub invariant-loop-word : goal.invariant-loop-word
invariant-loop-word l = map (λ w. w.now) l.found.items ≡ size_words (take l.word-index (map (λ w. w.now) l.words))
