use Rattle.std.proofs.Common.{rules}
use Rattle.zf_value.proofs.Measures.{two_items}
use Rattle.zf_value.proofs.value.Value.pair.Goals as goal

pub returns-in_default-as_slice-clause-none : goal.returns-in_default-as_slice-clause-none
returns-in_default-as_slice-clause-none c x y e = let l = two_items _ _ _ _ c.self.view_is c.in-Tuple.is c.as_slice.ensures x y e in search (rules, l)
