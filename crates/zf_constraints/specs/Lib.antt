pub mod Constraints
pub mod Enriched
pub use Rattle.zf_constraints.specs.Constraints.{constraints, membership, memberships}
pub use Rattle.zf_constraints.specs.Enriched.{enriched, with_domains}
