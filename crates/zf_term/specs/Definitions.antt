-- What global names are defined as, as plain data.
use Rattle.std.specs.Prelude.{ℕ, List}
use Rattle.zf_term.specs.declared.extent.Extent.{Extent}
use Rattle.zf_term.specs.ResolvedTrees.{ResolvedTree}
use Rattle.zf_term.specs.Types.{Ty}
pub use Rattle.zf_term.specs.Schemas.{DeclaredSet, plain, carrier, sides, DeclaredSets, no_sets, set, Comp, Schema, sets_of, is_member, both_hold, all_joined, joined, one_holds}

-- a given set or free type has its number among these
pub data Definition : Type 0 where
  given_set : (number : ℕ) → Definition
  free_type : (number : ℕ) → (constructors : List (List ℕ)) → Definition
  constructor : (number : ℕ) → (of_type : List ℕ) → (place : ℕ) → Definition
  abbreviation : Ty → ResolvedTree → Extent → Definition
  schema : Schema → Definition

pub record Defined : Type 0 where
  pub name : List ℕ
  pub definition : Definition
