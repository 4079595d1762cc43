use Rattle.zf_command.specs.declared.job.Job.TheVariants.{Check, Reach, Show, Why}
use Rattle.zf_engine.proofs.Writing.{writes_err, writes_ok}
use Rattle.zf_engine.proofs.answer.answer.Goals as goal

pub returns-in-Check-clause-answered : goal.returns-in-Check-clause-answered
returns-in-Check-clause-answered g c =
    let i = c.in-Check in
    writes_ok (Check i.types i.details i.format) c.args.job.now _ _ _ _ _ _ i.is c.as_bytes-file.ensures.value c.check_reported.ensures.checks

pub returns-in-Check-clause-stopped : goal.returns-in-Check-clause-stopped
returns-in-Check-clause-stopped g c =
    let i = c.in-Check in
    writes_err (Check i.types i.details i.format) c.args.job.now _ _ _ _ _ _ i.is c.as_bytes-file.ensures.value c.check_reported.ensures.checks

pub returns-in-Show-clause-answered : goal.returns-in-Show-clause-answered
returns-in-Show-clause-answered g c =
    writes_ok (Show c.in-Show.request) c.args.job.now _ _ _ _ _ _ c.in-Show.is c.as_bytes-file.ensures.value c.show_source.ensures.shows

pub returns-in-Show-clause-stopped : goal.returns-in-Show-clause-stopped
returns-in-Show-clause-stopped g c =
    writes_err (Show c.in-Show.request) c.args.job.now _ _ _ _ _ _ c.in-Show.is c.as_bytes-file.ensures.value c.show_source.ensures.shows

pub returns-in-Why-clause-answered : goal.returns-in-Why-clause-answered
returns-in-Why-clause-answered g c =
    writes_ok (Why c.in-Why.request) c.args.job.now _ _ _ _ _ _ c.in-Why.is c.as_bytes-file.ensures.value c.explain_source.ensures.explains

pub returns-in-Why-clause-stopped : goal.returns-in-Why-clause-stopped
returns-in-Why-clause-stopped g c =
    writes_err (Why c.in-Why.request) c.args.job.now _ _ _ _ _ _ c.in-Why.is c.as_bytes-file.ensures.value c.explain_source.ensures.explains

pub returns-in-Reach-clause-answered : goal.returns-in-Reach-clause-answered
returns-in-Reach-clause-answered g c = writes_ok (Reach c.in-Reach.exploration) c.args.job.now _ _ _ _ _ _ c.in-Reach.is c.as_bytes-file.ensures.value c.reach_source.ensures.reaches

pub returns-in-Reach-clause-stopped : goal.returns-in-Reach-clause-stopped
returns-in-Reach-clause-stopped g c = writes_err (Reach c.in-Reach.exploration) c.args.job.now _ _ _ _ _ _ c.in-Reach.is c.as_bytes-file.ensures.value c.reach_source.ensures.reaches
