use Rattle.zf_answers.proofs.Reported.{one_more}
use Rattle.zf_answers.proofs.check.fault_messages.Goals as goal

pub loop-fault-preserved : goal.loop-fault-preserved
loop-fault-preserved c = (
  one_more c.args.report.details c.args.report.source.now c.args.faults.now c.loop-fault.fault-index _ _ c.loop-fault.messages _ _
      c.fault-item.is c.loop-fault-test.true c.loop-fault.invariant.0 c.in_ok-message.ensures.message c.in_ok-push.ensures.ok,
  c.in_ok-message.ensures.known,
)
