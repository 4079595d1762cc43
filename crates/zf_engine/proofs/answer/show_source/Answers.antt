use Rattle.zf_answers.proofs.Refusing.{unfit_answers}
use Rattle.zf_engine.proofs.answer.show_source.Goals as goal

pub refuse-requires-clause-answers : goal.refuse-requires-clause-answers
refuse-requires-clause-answers g c = unfit_answers c.args.request.now c.args.source.now c.in-Err.stop c.in-Err.ensures.stop

pub show_schema-requires-clause-asked : goal.show_schema-requires-clause-asked
show_schema-requires-clause-asked g c = c.in-Ok-find_schema.ensures.asked c.args.source.now c.in-Ok.ensures.checks

pub refuse-requires-in-Err-find_schema-clause-answers : goal.refuse-requires-in-Err-find_schema-clause-answers
refuse-requires-in-Err-find_schema-clause-answers g c = c.in-Err-find_schema.ensures.stop c.in-Ok.ensures.checks
