use Rattle.zf_reach.proofs.Prelude.{ap}
use Rattle.zf_reach.proofs.Fronts.{always_on_err}
use Rattle.zf_reach.proofs.Parts.{stops_at_stuck, turns_over, turns_stuck}
use Rattle.zf_reach.proofs.exploring.close_turn.Goals as goal

pub returns-in_err-write_stuck-clause-err : goal.returns-in_err-write_stuck-clause-err
returns-in_err-write_stuck-clause-err g c = always_on_err _ (stops_at_stuck _ _ _ _ _ _ _ _ _ c.requires.1.1.1.1.1.1.0 c.if-run.true _ c.in_err-write_stuck.ensures.err)

pub returns-in_ok-write_stuck-clause-ok : goal.returns-in_ok-write_stuck-clause-ok
returns-in_ok-write_stuck-clause-ok g c =
    let same = c.write_stuck.ensures.same in
    turns_stuck _ _ _ _ _ _ _ _ _ c.requires.1.1.1.1.1.1.0 c.if-run.true _ c.in_ok-write_stuck.ensures.ok _ _ _ (ap (λ m. m.keys) same.0) same.2 same.3

pub returns-else-run-clause-ok : goal.returns-else-run-clause-ok
returns-else-run-clause-ok g c = turns_over _ _ _ _ _ _ _ _ _ c.requires.1.1.1.1.1.1.0 c.if-run.false
