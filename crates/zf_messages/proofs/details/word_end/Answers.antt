use Rattle.zf_messages.proofs.Prelude.{◌∙◌, arith, get_or}
use Rattle.std.proofs.lemmas.Bool.{ne_eqb}
use Rattle.zf_messages.proofs.Words.{last_word}
use Rattle.zf_messages.proofs.details.word_end.Goals as goal

pub loop-len-preserved : goal.loop-len-preserved
loop-len-preserved c =
    let text = c.args.text.now in
    let len = c.loop-len.len in
    let here = rw (ne_eqb (get_or text len 0) 32 c.if-text-len-eq32.false) at (last_word text len c.loop-len-test.true) in
    record { within = omega arith; same = c.loop-len.invariant.same ∙ here }
