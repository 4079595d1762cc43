-- What the search for a row needs and answers. No public clause rests on this file.
use Rattle.std.specs.Prelude.{◌≡◌, ◌≤◌, Bool, List, [], length, IsTrue, Option, ℕ}
use Rattle.zf_why.specs.Prelude.{AllByRecursion, Comp, ResolvedTree, Schema, sets_of, all_set_offenders, one_bounds, Value, Environment, due, IsNoneOut, OneOf}
use Rattle.zf_extent.specs.{offending, unless}
use Rattle.zf_why.specs.Rows.{HasRow, RuleOut}

abbrev pub schema_with : List Comp → List ResolvedTree → Schema
schema_with cs ps = record { comps = cs; conjuncts = ps }

-- the components have ranges
pub record HaveRanges (e : Environment) (cs : List Comp) : Type 0 where
  pub bounded : AllByRecursion (λ c. IsTrue (one_bounds e.numbers e.globals (sets_of c.sets))) cs
  pub sets : AllByRecursion (λ c. unless e.numbers (all_set_offenders e.globals (sets_of c.sets)) ≡ []) cs
  pub none_out : IsNoneOut e cs

-- the predicate can be asked for rows of so many values
pub record CanAsk (e : Environment) (values : ℕ) (p : ResolvedTree) : Type 0 where
  pub finite : unless e.numbers (offending e.globals p) ≡ []
  pub due : due p ≤ values

-- a search over these predicates can begin
pub record CanBegin (e : Environment) (cs : List Comp) (ps : List ResolvedTree) : Type 0 where
  pub ranges : HaveRanges e cs
  pub predicates : AllByRecursion (CanAsk e (length cs)) ps

-- whether there is a row
abbrev pub Decides : Environment → List Comp → List (Option Value) → List ResolvedTree → Bool → Type 0
Decides e cs held ps = OneOf (HasRow e cs held ps) (RuleOut e cs held ps)
