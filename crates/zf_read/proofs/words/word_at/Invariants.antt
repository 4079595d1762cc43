-- All so far is of a word.
use Rattle.zf_read.proofs.Prelude.{◌-◌, ◌≡◌, drop, take, true, list_all, is_in_word}
use Rattle.zf_read.proofs.words.word_at.Given as goal

abbrev pub invariant-loop-end : goal.invariant-loop-end
invariant-loop-end l = list_all is_in_word (take (l.end - l.place) (drop l.place l.text)) ≡ true
