use Rattle.zf_answers.proofs.Prelude.{cited_of}
use Rattle.zf_answers.proofs.Refusing.{unread_answers}
use Rattle.zf_answers.proofs.check.check_source.Goals as goal

pub returns-in-Err-clause-stop : goal.returns-in-Err-clause-stop
returns-in-Err-clause-stop c =
    let r = c.args.report in
    unread_answers r.details r.source.now c.in-Err.unread.fault (cited_of c.in-Err.unread.about) c.refusal.result c.in-Err.ensures c.refusal.ensures
