-- What is known is the line of a place.
use Rattle.zf_messages.specs.{IsKnown}
use Rattle.zf_messages.proofs.aside.Asides.push_lost.Given as goal

abbrev pub invariant-loop-name : goal.invariant-loop-name
invariant-loop-name l = IsKnown l.source l.known
