use Rattle.zf_lift.proofs.Prelude.{resolved_of, environment_of, IsLift}
use Rattle.zf_lift.proofs.Longer.{further}
use Rattle.zf_lift.proofs.Wherever.{itself, still_later, lift_later}
use Rattle.zf_lift.proofs.Each.{each_done}
use Rattle.zf_lift.proofs.Arms.{none_yet, one_more}
use Rattle.zf_lift.proofs.lifted.all_lifted.Goals as goal

pub loop-term-init : goal.loop-term-init
loop-term-init c = (
  itself _ _,
  λ h. none_yet resolved_of (IsLift 0 (environment_of c.args.own.now.env) (environment_of c.args.base.now) c.args.own.now.is_closed) c.in_ok-all.all.items c.in_ok-all.ensures.items,
)

pub loop-term-preserved : goal.loop-term-preserved
loop-term-preserved c =
    let l = c.loop-term in let x = c.in_ok-part in let own = c.lifted.new.own in (
      still_later _ _ _ _ _ _ l.invariant.0 x.ensures.grows,
      λ h. one_more resolved_of (IsLift 0 (environment_of l.own.env) (environment_of c.args.base.now) l.own.is_closed)
          (IsLift 0 (environment_of own.env) (environment_of c.args.base.now) own.is_closed) l.all.items c.args.terms.now c.push.new.self.items l.term-index
          c.term-item.result x.part c.term-item.is c.loop-term-test.true c.in_ok-push.ensures.items
          (λ y z. lift_later 0 _ _ _ _ _ y z x.ensures.grows) (l.invariant.1 h) (x.ensures.same (further _ _ _ h l.invariant.0.0)),
    )

pub returns-clause-same : goal.returns-clause-same
returns-clause-same c =
    let l = c.loop-term in
    λ h. each_done resolved_of (IsLift 0 (environment_of l.own.env) (environment_of c.args.base.now) l.own.is_closed) _ c.args.terms.now l.term-index c.loop-term-test.false (l.invariant.1 h)
