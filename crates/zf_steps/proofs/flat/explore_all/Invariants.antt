-- The environment is that of the searches.
use Rattle.zf_meaning.specs.{environment_of}
use Rattle.zf_steps.proofs.flat.explore_all.Given as goal

abbrev pub ghosts-explore_by : goal.ghosts-explore_by
ghosts-explore_by g a = record { environment = environment_of a.cursor.state.env.now }
