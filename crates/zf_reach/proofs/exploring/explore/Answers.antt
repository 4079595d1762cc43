use Rattle.zf_reach.proofs.Prelude.{◌∙◌}
use Rattle.zf_reach.proofs.Fronts.{always_on_err}
use Rattle.zf_reach.proofs.Running.{stops_at_once, stops_closed, stops_in_seen, writes_seen}
use Rattle.zf_reach.proofs.exploring.explore.Goals as goal

pub returns-in_err-run-clause-err : goal.returns-in_err-run-clause-err
returns-in_err-run-clause-err g c = always_on_err _ (stops_at_once _ _ _ _)

pub returns-in_err-append_last-clause-err : goal.returns-in_err-append_last-clause-err
returns-in_err-append_last-clause-err g c = always_on_err _ (stops_closed _ _ _ _ _ _ _ _ c.in_ok-ending.ensures.ok)

pub returns-in_err-write_text-clause-err : goal.returns-in_err-write_text-clause-err
returns-in_err-write_text-clause-err g c =
    let k = c.in_ok-ending.ensures.ok in
    always_on_err _ (stops_in_seen _ _ _ _ _ _ _ _ k _ _ (c.deref.ensures.value ∙ c.in_ok-append_last.ensures k.inner k.count) c.in_err-write_text.ensures.err)

pub returns-clause-ok : goal.returns-clause-ok
returns-clause-ok g c =
    let k = c.in_ok-ending.ensures.ok in
    let m = writes_seen _ _ _ _ _ _ _ _ k _ _ (c.deref.ensures.value ∙ c.in_ok-append_last.ensures k.inner k.count) c.in_ok-write_text.ensures.ok in
    (g.M.Machine.stop c.write_whole.new.run.cursor, m.0, m.1, m.2)
