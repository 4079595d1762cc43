use Rattle.std.proofs.Common.{sym, subst, ◌∙◌}
use Rattle.zf_value.proofs.Applications.{IsOnly, only_pass, only_first, only_twice, only_one}
use Rattle.zf_value.proofs.relation.applied.Goals as goal
use Rattle.zf_value.proofs.relation.applied.Goals.{in-Some+else-is_some, in_default}

pub returns-then-is_some : goal.returns-then-is_some
returns-then-is_some c =
    only_twice _ _ _ c.loop-z.z-index _ _ _ _ c.related-z-items.ensures c.z-item.is c.loop-z-test.true c.in-Some.ensures.is (sym c.is_some.ensures ∙ c.if-is_some.true) c.loop-z.invariant

pub loop-z-preserved : goal.loop-z-preserved
loop-z-preserved c =
    elim c.match-pair.branch [
      | in-Some+else-is_some w ↦
          subst (IsOnly _) (sym w.found-is) (only_first _ c.loop-z.z-index _ _ w.in-Some.y _ c.z-item.is c.loop-z-test.true w.in-Some.ensures.is
          (sym w.is_some.ensures ∙ w.if-is_some.false) c.loop-z.invariant)
      | in_default w ↦
          subst (IsOnly _) (sym w.found-is) (only_pass _ c.loop-z.z-index _ _ c.z-item.is c.loop-z-test.true w.in_default.ensures.none c.loop-z.invariant)
    ]

pub returns : goal.returns
returns c = only_one _ _ _ c.loop-z.z-index _ c.related-z-items.ensures c.loop-z-test.false c.loop-z.invariant
