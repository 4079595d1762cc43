use Rattle.zf_lines.proofs.Fronts.{always_on_err}
use Rattle.zf_engine.proofs.Writing.{answers_kept, stops_reading, stops_whole}
use Rattle.zf_engine.proofs.run.run.Goals as goal

pub returns-in_err-status-clause-stopped : goal.returns-in_err-status-clause-stopped
returns-in_err-status-clause-stopped g c =
    always_on_err _ (stops_reading _ _ _ _ _ _ _ c.in_ok-source.ensures.gave (rw c.deref.ensures.value at c.in_err-status.ensures.stopped))

pub returns-clause-stopped : goal.returns-clause-stopped
returns-clause-stopped g c =
    stops_reading _ _ _ _ _ _ _ c.in_ok-source.ensures.gave (stops_whole _ _ _ _ _ _ _ (rw c.deref.ensures.value at c.in_ok-status.ensures.answered) c.flush.ensures.bytes)

pub returns-in-Ok-clause-answered : goal.returns-in-Ok-clause-answered
returns-in-Ok-clause-answered g c =
    answers_kept _ _ _ _ _ _ _ _ _ c.in_ok-source.ensures.gave (rw c.deref.ensures.value at c.in_ok-status.ensures.answered) c.in-Ok.ensures.bytes
