-- One for each component so far.
use Rattle.zf_read.proofs.Prelude.{◌≡◌, take, map, comp_of, nothing_of}
use Rattle.zf_read.proofs.held.nothing_held.Given as goal

abbrev pub invariant-loop : goal.invariant-loop
invariant-loop l = l.held.items ≡ nothing_of (map comp_of (take l.index l.components))
