use Rattle.zf_value.proofs.Prelude.{take, IsSelected, IsGathered}
use Rattle.zf_value.proofs.part.selected.Given as goal

abbrev pub invariant-loop-z : goal.invariant-loop-z
invariant-loop-z l = IsGathered (IsSelected l.selection.test l.selection.keep l.selection.set.now l.selection.given) (take l.z-index l.values) l.out.items
