-- The messages of the faults so far, and a line that is known.
use Rattle.zf_answers.proofs.Prelude.{map, take, fault_of, AreFaultMessages, IsKnown}
use Rattle.zf_answers.proofs.check.fault_messages.Given as goal

abbrev pub invariant-loop-fault : goal.invariant-loop-fault
invariant-loop-fault l =
    AreFaultMessages l.report.details l.report.source.now (map fault_of (take l.fault-index l.faults)) l.messages × IsKnown l.report.source.now l.known
