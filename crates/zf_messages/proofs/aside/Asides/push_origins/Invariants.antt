-- What is known is the line of a place.
use Rattle.zf_messages.specs.{IsKnown}
use Rattle.zf_messages.proofs.aside.Asides.push_origins.Given as goal

abbrev pub invariant-loop-fault : goal.invariant-loop-fault
invariant-loop-fault l = IsKnown l.source l.known
