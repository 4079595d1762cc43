-- What a schema says of its components.
use Rattle.std.specs.Prelude.{ℕ, ◌+◌, List, [], ◌∷◌, ◌++◌, flat_map}
use Rattle.zf_term.specs.{Comp, DeclaredSet, is_member, plain, ResolvedTree, Schema}

-- `x \in E`, of a declared set that a declaration names; other declared sets give no constraint
abbrev pub membership : (place : ℕ) → DeclaredSet → List ResolvedTree
membership i (plain e) = is_member i e ∷ []
membership i _ = []

abbrev pub memberships : (place : ℕ) → List Comp → List ResolvedTree
memberships i [] = []
memberships i (c ∷ cs) = flat_map (membership i) c.sets ++ memberships (i + 1) cs

-- what a schema says of its components: that they are members of their declared sets, and its conjuncts
abbrev pub constraints : Schema → List ResolvedTree
constraints a = memberships 0 a.comps ++ a.conjuncts
