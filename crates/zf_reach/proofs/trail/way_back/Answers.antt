use Rattle.zf_reach.proofs.Prelude.{◌-◌, arith, refl, slice_get-get_or, over}
use Rattle.zf_reach.proofs.Trails.{chain_longer}
use Rattle.zf_reach.proofs.trail.way_back.Goals as goal

pub back-init : goal.back-init
back-init g c = (over _ _ c.new-way.ensures.items refl, omega arith)

pub back-smaller : goal.back-smaller
back-smaller g c =
    let some = c.back-test.true in
    let within = c.back.invariant.1 in
    let kept = slice_get-get_or c.args.trail.now (c.back.at - 1) c.index-trail-at.result (omega (arith, some, within)) in
    let earlier = c.requires (c.back.at - 1) _ kept in
    omega (arith, some, earlier)

pub back-preserved : goal.back-preserved
back-preserved g c =
    let some = c.back-test.true in
    let within = c.back.invariant.1 in
    let kept = slice_get-get_or c.args.trail.now (c.back.at - 1) c.index-trail-at.result (omega (arith, some, within)) in
    let earlier = c.requires (c.back.at - 1) _ kept in
    (chain_longer _ _ _ _ c.back.at _ c.in_ok-push.ensures.items some kept c.back.invariant.0, omega (arith, within, earlier))
