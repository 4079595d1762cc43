-- The same of a list of declared sets.
use Rattle.std.specs.Prelude.{ℕ, List}
use Rattle.zf_term.specs.Schemas.{DeclaredSet, sets_of}
use Rattle.zf_term.specs.SetShapes.{sets_count, sets_nodes}

abbrev pub all_set_counts : List DeclaredSet → ℕ
all_set_counts ds = sets_count (sets_of ds)

abbrev pub all_set_nodes : List DeclaredSet → ℕ
all_set_nodes ds = sets_nodes (sets_of ds)
