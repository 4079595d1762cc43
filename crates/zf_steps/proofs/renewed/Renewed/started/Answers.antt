-- No declared set is out.
use Rattle.zf_steps.proofs.Prelude.{environment_of, schema_of}
use Rattle.zf_steps.proofs.renewed.Renewed.started.Goals as goal

pub no_memory-requires : goal.no_memory-requires
no_memory-requires c = (environment_of c.args.self.now.env.now, (schema_of c.args.self.now.flat.now).comps, c.requires.none_out, c.in-Err.ensures.refused)
