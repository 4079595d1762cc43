use Rattle.zf_calculus.proofs.Prelude.{List, map, refl, at_end, comp_of, Component, AreOnce}
use Rattle.zf_calculus.proofs.Apart.{none_found, one_found_behind, once_ahead, one_more_apart}
use Rattle.zf_calculus.proofs.components.are_apart.Goals as goal

pub loop-place-preserved : goal.loop-place-preserved
loop-place-preserved c =
    let none = none_found _ c.component_of.result _ c.is_some.result c.is_some.ensures c.if-is_some.false c.component_of.ensures in (
      λ rest. c.loop-place.invariant.0 (one_more_apart c.args.components.now c.loop-place.place c.index-components-place.result c.as_slice-name.result.now
          c.loop-place-test.true c.index-components-place.is c.as_slice-name.ensures none rest),
      λ all. (once_ahead c.args.components.now c.loop-place.place c.index-components-place.result c.loop-place-test.true c.index-components-place.is (c.loop-place.invariant.1 all)).1,
    )

pub returns-then-is_some : goal.returns-then-is_some
returns-then-is_some c = (
  λ h. absurd (cc),
  λ all. absurd (one_found_behind _ c.args.components.now c.loop-place.place c.index-components-place.result c.as_slice-name.result.now
      c.component_of.result c.is_some.result c.loop-place-test.true c.index-components-place.is c.as_slice-name.ensures c.is_some.ensures c.if-is_some.true
      c.component_of.ensures (c.loop-place.invariant.1 all)),
)

pub returns : goal.returns
returns c =
    (λ h. c.loop-place.invariant.0 (at_end (λ (ds : List Component). AreOnce (map comp_of ds)) c.args.components.now c.loop-place.place c.loop-place-test.false tt), λ all. refl)
