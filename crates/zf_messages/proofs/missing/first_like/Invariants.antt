-- No name before the place is like it.
use Rattle.zf_messages.proofs.Prelude.{◌≡◌, drop, first_like}
use Rattle.zf_messages.proofs.missing.first_like.Given as goal

abbrev pub invariant-loop-other : goal.invariant-loop-other
invariant-loop-other l = first_like l.name l.names ≡ first_like l.name (drop l.other-index l.names)
