-- The other words so far, word by word.
use Rattle.zf_command.proofs.Prelude.{◌++◌, ◌∙◌, ◌∷◌, [], ap, List, sym, ℕ, not, is_size_word}
use Rattle.zf_command.proofs.SizeWords.{left_out, picked}
use Rattle.zf_command.proofs.sizes.other_words.Goals as goal
use Rattle.zf_command.proofs.sizes.other_words.Goals.{then-not-is_size_word+in_ok-of+in_ok-push, else-not-is_size_word}

pub loop-word-preserved : goal.loop-word-preserved
loop-word-preserved c = elim c.if-not-is_size_word.branch [
  | then-not-is_size_word+in_ok-of+in_ok-push w ↦ rw w.others-is (rw w.in_ok-push.ensures.ok (ap (λ (t : List ℕ). c.loop-word.others ++ t ∷ []) w.in_ok-of.ensures
      ∙ picked (λ word. not (is_size_word word)) c.args.words.now c.loop-word.word-index _ c.loop-word-test.true _ (ap not (sym w.if-not-is_size_word.ensures)) c.loop-word.invariant))
  | else-not-is_size_word w ↦ rw w.others-is (left_out (λ word. not (is_size_word word)) c.args.words.now c.loop-word.word-index _ c.loop-word-test.true _
      (ap not (sym w.if-not-is_size_word.ensures)) c.loop-word.invariant)
]
