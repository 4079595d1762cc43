use Rattle.zf_engine.proofs.Prelude.{inr}
use Rattle.zf_engine.proofs.Writing.{text_written, why_told_so}
use Rattle.zf_command.specs.declared.job.Job.TheVariants.{Why}
use Rattle.zf_engine.proofs.answer.explain_source.Goals as goal

pub returns-in-Ok-clause-explains : goal.returns-in-Ok-clause-explains
returns-in-Ok-clause-explains g c =
    text_written (Why c.args.request.now) c.args.file.now c.args.source.now _ c.in-Ok.status _ _ _ (inr c.in-Ok.ensures.answer)
    (rw c.deref.ensures.value at c.write_whole.ensures.written)

pub returns-in-Err-clause-explains : goal.returns-in-Err-clause-explains
returns-in-Err-clause-explains g c = why_told_so c.args.request.now c.args.file.now c.args.source.now c.in-Err.stop _ _ _ c.in-Err.ensures.stop c.tell.ensures.told
