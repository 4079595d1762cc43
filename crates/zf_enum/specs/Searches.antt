-- What a search for bindings is seen as.
use Rattle.std.specs.Prelude.{List, Option, Some, None, map}
use Rattle.zf_enum.specs.Prelude.{resolved_of, ResolvedTree, Value, Conjuncts, planted, Tree, Environment, environment_of}
use Rattle.zf_walk.specs.Progress as walk
use Rattle.zf_enum.specs.declared.property.Property as judge
use Rattle.zf_enum.specs.Property.{property}

-- What a search goes by: predicates, which are its conjuncts or, where there are trees, the leaves of them. They stand in an environment that may have names after those of the schema's.
pub record Goal : Type 0 where
  pub environment : Environment
  pub further : Environment
  pub predicates : List ResolvedTree
  pub trees : Option (List Tree)

-- conjuncts themselves, or trees over them
abbrev pub over : Conjuncts Value → Option (List Tree) → Conjuncts Value
over s None = s
over s (Some trees) = planted s trees

abbrev pub conjuncts_of : Goal → Conjuncts Value
conjuncts_of g = over (property g.further g.predicates) g.trees

-- the conjuncts that a property has
abbrev pub judged : judge.Property → Conjuncts Value
judged p = property (environment_of p.env.now) (map resolved_of p.conjuncts)

-- a search that counts its tests goes by predicates
abbrev pub counted_goal : walk.Progress Value judge.Property → Goal
counted_goal w = record { environment = environment_of w.judge.env.now; further = environment_of w.judge.env.now; predicates = map resolved_of w.judge.conjuncts; trees = None }
