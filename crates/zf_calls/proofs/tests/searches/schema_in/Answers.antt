use Rattle.std.proofs.Common.{subst}
use Rattle.zf_meaning.specs.{environment_of}
use Rattle.zf_term.specs.{schema_of}
use Rattle.zf_answers.specs.{IsNamed}
use Rattle.zf_answers.proofs.DueWithin.{due_within}
use Rattle.zf_calls.proofs.tests.searches.schema_in.Goals as goal

pub returns-clause-due : goal.returns-clause-due
returns-clause-due c =
    due_within (environment_of c.args.env.now) (environment_of c.args.env.now).globals c.args.name.now (schema_of c.in-Some.schema.now) c.requires
    (subst (λ g. IsNamed g c.args.name.now (schema_of c.in-Some.schema.now)) c.globals-globals.ensures c.in-Some.ensures)
