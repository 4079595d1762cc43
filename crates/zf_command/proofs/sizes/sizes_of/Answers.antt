-- The sizes of words, word by word.
use Rattle.zf_command.proofs.Prelude.{◌∙◌, ◌≡◌, ap, Err, sym, err_from_is_err_and, UsageFault, BadWords}
use Rattle.zf_command.proofs.SizeWords.{bad_among, reads_more}
use Rattle.zf_command.proofs.sizes.sizes_of.Goals as goal

pub returns-in_err-size_of-clause-refused : goal.returns-in_err-size_of-clause-refused
returns-in_err-size_of-clause-refused c =
    let p = err_from_is_err_and c.from_residual.result c.from_residual.ensures.1 in
    λ e.
    let raised = sym p.1 ∙ e in
    let fault : c.in_err-size_of.field-0.0 ≡ BadWords = sym p.2 ∙ (cc raised) in
    bad_among c.args.words.now c.loop-word.word-index _ c.loop-word-test.true (c.in_err-size_of.ensures.refused (ap (λ (f : UsageFault). Err f) fault))

pub loop-word-preserved : goal.loop-word-preserved
loop-word-preserved c =
    rw c.in_ok-push.ensures.ok (reads_more c.args.words.now c.loop-word.sizes c.loop-word.word-index _ c.in_ok-size_of.field-0 c.loop-word-test.true c.loop-word.invariant c.in_ok-size_of.ensures.read)
