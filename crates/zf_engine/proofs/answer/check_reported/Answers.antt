use Rattle.zf_engine.proofs.Prelude.{inr, Check}
use Rattle.zf_engine.proofs.Writing.{check_unread, text_written}
use Rattle.zf_engine.proofs.answer.check_reported.Goals as goal

pub returns-in-Ok-clause-checks : goal.returns-in-Ok-clause-checks
returns-in-Ok-clause-checks g c =
    let r = c.args.report in
    text_written (Check c.args.types r.details c.args.format) r.file.now r.source.now _ c.in-Ok.status _ _ _ (inr c.in-Ok.ensures.answer)
    (rw c.deref.ensures.value at c.write_whole.ensures.written)

pub returns-in-Err-clause-checks : goal.returns-in-Err-clause-checks
returns-in-Err-clause-checks g c =
    let r = c.args.report in
    check_unread c.args.types r.details c.args.format r.file.now r.source.now c.in-Err.stop _ _ _ c.in-Err.ensures.stop c.tell.ensures.told
