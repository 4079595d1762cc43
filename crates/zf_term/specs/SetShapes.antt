-- How large declared sets are.
use Rattle.std.specs.Prelude.{ℕ, ◌+◌}
use Rattle.zf_term.specs.Schemas.{DeclaredSet, plain, carrier, sides, DeclaredSets, no_sets, set}
use Rattle.zf_term.specs.Shapes.{nodes}

-- the sets that are held: one for that of a declaration or of a type
abbrev mutual
  pub set_count : DeclaredSet → ℕ
  set_count (plain t) = 1
  set_count (carrier t) = 1
  set_count (sides left right) = sets_count left + sets_count right

  pub sets_count : DeclaredSets → ℕ
  sets_count no_sets = 0
  sets_count (set d ds) = set_count d + sets_count ds

-- the nodes of the sets of declarations
abbrev mutual
  pub set_nodes : DeclaredSet → ℕ
  set_nodes (plain t) = nodes t
  set_nodes (carrier t) = 0
  set_nodes (sides left right) = sets_nodes left + sets_nodes right

  pub sets_nodes : DeclaredSets → ℕ
  sets_nodes no_sets = 0
  sets_nodes (set d ds) = set_nodes d + sets_nodes ds
