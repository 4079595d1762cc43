-- The size words so far, word by word.
use Rattle.zf_command.proofs.Prelude.{◌∙◌, Bor, List, sym, ℕ, map-append, is_size_word}
use Rattle.zf_command.proofs.SizeWords.{left_out, picked}
use Rattle.zf_command.proofs.sizes.size_words.Goals as goal
use Rattle.zf_command.proofs.sizes.size_words.Goals.{then-is_size_word+in_ok-push, else-is_size_word}

pub loop-word-preserved : goal.loop-word-preserved
loop-word-preserved c = elim c.if-is_size_word.branch [
  | then-is_size_word+in_ok-push w ↦ rw w.found-is (rw w.in_ok-push.ensures.items (map-append (λ (b : Bor (List ℕ)). b.now) c.loop-word.found.items _
      ∙ picked is_size_word c.args.words.now c.loop-word.word-index _ c.loop-word-test.true _ (sym w.if-is_size_word.ensures) c.loop-word.invariant))
  | else-is_size_word w ↦ rw w.found-is (left_out is_size_word c.args.words.now c.loop-word.word-index _ c.loop-word-test.true _ (sym w.if-is_size_word.ensures) c.loop-word.invariant)
]
