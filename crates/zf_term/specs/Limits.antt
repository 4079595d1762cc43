-- The limits of a schema.
use Rattle.std.specs.Prelude.{◌≡◌, ℕ, ◌+◌, ◌≤◌, List, length}
use Rattle.std.specs.List.{AllByRecursion, sum_by}
use Rattle.zf_term.specs.Schemas.{Comp, Schema}
use Rattle.zf_term.specs.declared.fault.Limit.{Limit}
use Rattle.zf_term.specs.declared.fault.Limit.TheVariants as limit
use Rattle.zf_term.specs.Faults.{Offence, too_large}
use Rattle.zf_term.specs.ResolvedTrees.{ResolvedTree}
use Rattle.zf_term.specs.SetShapes.{set_count, set_nodes}
use Rattle.zf_term.specs.Shapes.{nodes, height}

abbrev pub components_max : ℕ
components_max = 64

abbrev pub sets_max : ℕ
sets_max = 4096

abbrev pub conjuncts_max : ℕ
conjuncts_max = 4096

abbrev pub nodes_max : ℕ
nodes_max = 65536

abbrev pub height_max : ℕ
height_max = 256

-- how many declared sets there are; a set that is declared for two components counts twice
abbrev pub declared_sets : Schema → ℕ
declared_sets a = sum_by (λ c. sum_by set_count c.sets) a.comps

-- the nodes of all terms in declared sets and conjuncts
abbrev pub schema_nodes : Schema → ℕ
schema_nodes a = sum_by (λ c. sum_by set_nodes c.sets) a.comps + sum_by nodes a.conjuncts

abbrev pub IsLow : ResolvedTree → Type 0
IsLow t = height t ≤ height_max

abbrev pub AreFew : List Comp → Type 0
AreFew cs = length cs ≤ components_max

pub record IsWithin (a : Schema) : Type 0 where
  pub comps : AreFew a.comps
  pub sets : declared_sets a ≤ sets_max
  pub conjuncts : length a.conjuncts ≤ conjuncts_max
  pub nodes : schema_nodes a ≤ nodes_max
  pub low : AllByRecursion IsLow a.conjuncts

-- the schema is within this limit
abbrev pub KeepsTo : Limit → Schema → Type 0
KeepsTo limit.TypeNodes a = Unit {0}
KeepsTo limit.Components a = AreFew a.comps
KeepsTo limit.Sets a = declared_sets a ≤ sets_max
KeepsTo limit.Conjuncts a = length a.conjuncts ≤ conjuncts_max
KeepsTo limit.Nodes a = schema_nodes a ≤ nodes_max
KeepsTo limit.Height a = AllByRecursion IsLow a.conjuncts

-- it passes one: which one is reported
abbrev pub IsTooLarge : Schema → Offence → Type 0
IsTooLarge a o = (l : Limit) × (o ≡ too_large l) × (KeepsTo l a → ⊥)
