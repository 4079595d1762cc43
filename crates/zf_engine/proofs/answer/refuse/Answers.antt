use Rattle.zf_engine.proofs.Writing.{told}
use Rattle.zf_engine.proofs.answer.refuse.Goals as goal

pub returns-clause-shows : goal.returns-clause-shows
returns-clause-shows g c =
    told c.args.inquiry.request.now c.args.inquiry.report.file.now c.args.inquiry.report.source.now c.args.stop _ _ _ c.requires.answers c.tell.ensures.told
