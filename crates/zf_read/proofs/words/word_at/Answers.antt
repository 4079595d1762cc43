use Rattle.std.proofs.Common.{sym, ◌∙◌}
use Rattle.zf_read.proofs.WordsAt.{word_more, word_ended}
use Rattle.zf_read.proofs.words.word_at.Goals as goal

pub returns-then-not-is_in_word : goal.returns-then-not-is_in_word
returns-then-not-is_in_word c = word_ended c.args.text.now c.args.place c.loop-end.end c.loop-end.auto.end c.loop-end-test.true c.loop-end.invariant
    (sym c.is_in_word.ensures ∙ c.if-not-is_in_word.true)

pub loop-end-preserved : goal.loop-end-preserved
loop-end-preserved c = word_more c.args.text.now c.args.place c.loop-end.end c.loop-end.auto.end c.loop-end-test.true c.loop-end.invariant (sym c.is_in_word.ensures ∙ c.if-not-is_in_word.false)
