-- The status, by what the words ask for.
use Rattle.zf_engine.proofs.Prelude.{map, subst, IsStatus, IsWorkStatus}
use Rattle.zf_command.specs.{IsAsked}
use Rattle.zf_engine.proofs.Statuses.{status_of_refused}
use Rattle.zf_engine.proofs.program.program.Goals as goal

pub returns-in-Ok-Work-clause-status : goal.returns-in-Ok-Work-clause-status
returns-in-Ok-Work-clause-status g c =
    IsStatus.worked c.in-Ok-Work.file c.in-Ok-Work.job (subst (IsAsked (map g.S.AsStr.text c.args.words.now)) c.in-Ok-Work.field-0-is c.in-Ok-Work.ensures.asked)
    (subst (λ file. IsWorkStatus c.in-Ok-Work.job file c.work.result) c.as_str.ensures c.work.ensures)

pub returns-in-Ok-Work-clause-refused : goal.returns-in-Ok-Work-clause-refused
returns-in-Ok-Work-clause-refused g c = status_of_refused (map g.S.AsStr.text c.args.words.now) c.work.result (returns-in-Ok-Work-clause-status g c)

pub returns-in-Ok-About-clause-status : goal.returns-in-Ok-About-clause-status
returns-in-Ok-About-clause-status g c =
    IsStatus.told c.in-Ok-About.text (subst (IsAsked (map g.S.AsStr.text c.args.words.now)) c.in-Ok-About.field-0-is c.in-Ok-About.ensures.asked) c.tell.ensures
