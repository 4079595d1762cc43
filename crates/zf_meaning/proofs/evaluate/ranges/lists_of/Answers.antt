use Rattle.zf_meaning.proofs.Prelude.{◌≡◌, ◌∙◌, ap, subst, IsAscending, members}
use Rattle.zf_meaning.proofs.Gathering.{lists-more, ascend-more, ascend-all}
use Rattle.zf_meaning.proofs.evaluate.ranges.lists_of.Goals as goal

pub loop-spread-preserved : goal.loop-spread-preserved
loop-spread-preserved c =
    let same : c.members.result.now ≡ members c.spread-item.result.set = c.members.ensures.is ∙ ap members c.get.ensures in
    record {
      lists = lists-more c.args.sets.now c.loop-spread.spread-index c.spread-item.result c.members.result.now _ _ c.loop-spread-test.true c.spread-item.is same
          c.loop-spread.invariant.lists c.in_ok-repeat.ensures;
      ascending = ascend-more c.args.sets.now c.loop-spread.spread-index c.spread-item.result c.loop-spread-test.true c.spread-item.is
          (subst IsAscending same c.members.ensures.ascending) c.loop-spread.invariant.ascending;
    }

pub returns-clause-ascending : goal.returns-clause-ascending
returns-clause-ascending c = ascend-all c.args.sets.now c.loop-spread.spread-index c.loop-spread-test.false c.loop-spread.invariant.ascending
