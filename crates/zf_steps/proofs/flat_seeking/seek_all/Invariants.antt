-- The environment is that of the searches.
use Rattle.zf_meaning.specs.{environment_of}
use Rattle.zf_steps.proofs.flat_seeking.seek_all.Given as goal

abbrev pub ghosts-seek_by : goal.ghosts-seek_by
ghosts-seek_by g a = record { environment = environment_of a.cursor.state.env.now }
