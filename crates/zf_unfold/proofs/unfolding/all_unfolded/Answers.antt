use Rattle.zf_unfold.proofs.Prelude.{resolved_of, environment_of, IsUnfolded, itself, further, each_done}
use Rattle.zf_lift.proofs.Arms.{none_yet, one_more}
use Rattle.zf_unfold.proofs.Names.{base_later}
use Rattle.zf_unfold.proofs.WrittenOut.{unfold_later}
use Rattle.zf_unfold.proofs.unfolding.all_unfolded.Goals as goal

pub loop-term-init : goal.loop-term-init
loop-term-init c = (itself _, λ e b. none_yet resolved_of (IsUnfolded (environment_of c.args.own.now) e) c.in_ok-all.all.items c.in_ok-all.ensures.items)

pub loop-term-preserved : goal.loop-term-preserved
loop-term-preserved c =
    let l = c.loop-term in let x = c.in_ok-part in (
      further _ _ _ l.invariant.0 x.ensures.grows,
      λ e b. one_more resolved_of (IsUnfolded (environment_of l.own) e) (IsUnfolded (environment_of c.unfolded.new.own) e) l.all.items c.args.terms.now c.push.new.self.items
          l.term-index c.term-item.result x.part c.term-item.is c.loop-term-test.true c.in_ok-push.ensures.items
          (λ y z. unfold_later _ _ _ y z x.ensures.grows) (l.invariant.1 e b) (x.ensures.same e (base_later _ _ _ _ b l.invariant.0)),
    )

pub returns-clause-same : goal.returns-clause-same
returns-clause-same c =
    let l = c.loop-term in
    λ e b. each_done resolved_of (IsUnfolded (environment_of l.own) e) _ c.args.terms.now l.term-index c.loop-term-test.false (l.invariant.1 e b)
