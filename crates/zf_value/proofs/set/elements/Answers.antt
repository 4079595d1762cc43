use Rattle.std.proofs.Common.{◌≡◌, arith}
use Rattle.zf_value.proofs.Elements.{element_more, ascending_elements, elements_made, elements_out}
use Rattle.zf_value.proofs.set.elements.Goals as goal

pub returns-then-count : goal.returns-then-count
returns-then-count c = elements_out _ _ c.if-count.true

pub loop-index-preserved : goal.loop-index-preserved
loop-index-preserved c = element_more _ _ _ _ c.loop-index.invariant c.in_ok-push.ensures.items

pub set_of-requires : goal.set_of-requires
set_of-requires c = ascending_elements c.args.number c.loop-index.index _ c.loop-index.invariant

pub returns : goal.returns
returns c = let all : c.loop-index.index ≡ c.args.count = omega arith in elements_made _ _ _ _ _ c.loop-index.invariant all c.set_of.ensures
