use Rattle.zf_meaning.proofs.Prelude.{◌+◌, ap, arith, length, List, refl, subst, sym, Outcome, Environment, environment_of}
use Rattle.zf_meaning.proofs.WorkedOut.{AreWorkedOutTo, none-worked_out, one-worked_out, all-worked_out}
use Rattle.zf_meaning.proofs.env.worked_out.Goals as goal

pub loop-place-init : goal.loop-place-init
loop-place-init c = record { globals = refl; sizes = refl; numbers = refl; outcomes = none-worked_out _ c.new.ensures.items }

pub loop-place-preserved : goal.loop-place-preserved
loop-place-preserved c =
    let old = environment_of c.loop-place.env in
    let one = one-worked_out c.loop-place.place old c.in_ok-outcome.outcome c.loop-place.invariant.outcomes (λ d g. c.in_ok-outcome.ensures d g) in
    record {
      globals = c.loop-place.invariant.globals;
      sizes = c.loop-place.invariant.sizes;
      numbers = c.loop-place.invariant.numbers;
      outcomes = subst (λ (os : List Outcome). let e : Environment = record { globals = old.globals; sizes = old.sizes; outcomes = os; numbers = old.numbers }
          in AreWorkedOutTo (c.loop-place.place + 1) e) (sym c.in_ok-push.ensures.items) one;
    }

pub returns-clause-outcomes : goal.returns-clause-outcomes
returns-clause-outcomes c =
    all-worked_out c.loop-place.place (environment_of c.loop-place.env) (omega (arith, ap length c.loop-place.invariant.globals, c.len-place-end.ensures.len)) c.loop-place.invariant.outcomes
