-- The next binding.
use Rattle.zf_steps.proofs.Renewing.{goes_by_schema}
use Rattle.zf_steps.proofs.renewed.Renewed.advance.Goals as goal

pub returns-in-Some-clause-answer : goal.returns-in-Some-clause-answer
returns-in-Some-clause-answer c = goes_by_schema c.args.self.now c.in-Some.search c.advanced.new.search c.advanced.result c.in-Some.is c.advanced.ensures.answer
