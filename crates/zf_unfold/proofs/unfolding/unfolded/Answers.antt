use Rattle.zf_unfold.proofs.Prelude.{environment_of, further}
use Rattle.zf_unfold.proofs.Names.{base_later}
use Rattle.zf_unfold.proofs.Steps.{enough_based}
use Rattle.zf_unfold.proofs.WrittenOut.{unfold_further}
use Rattle.zf_unfold.proofs.unfolding.unfolded.Goals as goal

pub loop-preserved : goal.loop-preserved
loop-preserved c =
    let l = c.loop in let x = c.in_ok-all-2 in (
      further _ _ _ l.invariant.0 x.ensures.grows,
      λ e b. unfold_further e (environment_of l.own) (environment_of c.again.new.own) _ _ _ x.ensures.grows
          (x.ensures.same (enough_based _ e _ (base_later _ e _ _ b l.invariant.0))) (l.invariant.1 e b),
    )
