use Rattle.zf_enum.proofs.Prelude.{resolved_of, AddsSpreads}
use Rattle.zf_enum.proofs.spread.add_spreads.Given as goal

abbrev pub invariant-loop-component : goal.invariant-loop-component
invariant-loop-component l = AddsSpreads (resolved_of l.term) l.conjunct l.initial.found.items l.found.items
