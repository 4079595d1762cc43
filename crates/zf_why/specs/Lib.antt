pub mod Prelude
pub mod Rows
pub mod Cores
pub mod Parts
pub mod Disjunctions
pub mod Sides
pub mod Operands
pub mod Told
pub mod Causes
pub mod Explaining
pub mod Searching
pub mod Besides
pub mod Unheld
pub mod HeldRows
pub mod Disjuncts
pub use Rattle.zf_why.specs.Rows.{HasRow, IsAllowed, IsHeldRow, IsInHeldRange, RuleOut}
pub use Rattle.zf_why.specs.Cores.{AreAlone, AreEmpty, ArePicked, HasNoValue, HasValue, IsCore}
pub use Rattle.zf_why.specs.Parts.{chain_part, component_of, is_same, linked_part, part_of}
unfoldable pub use Rattle.zf_why.specs.Disjunctions.{split_of, splits_of}
pub use Rattle.zf_why.specs.Disjunctions.{only, parted, side_split, Split, split_at, split_in, split_step, splits_step, whole}
pub use Rattle.zf_why.specs.Sides.{AreOfBoth, AreSides, AreSidesOf}
pub use Rattle.zf_why.specs.Operands.{are_held, AreOperands, AreOperandsBy, AreOperandsOf, AreOutcomes, HasHeld, HasHeldOutcome, is_held, is_tested, is_value, of_two, operand_as, Related, relation_of}
pub use Rattle.zf_why.specs.Told.{AreBlamed, AreTellings, AreTold, IsSide, IsTelling, nothing_beside, others_beside}
pub use Rattle.zf_why.specs.Causes.{EmptiedBy, RefutedBy, RefutedTogetherBy}
pub use Rattle.zf_why.specs.Explaining.{Explains}
pub use Rattle.zf_why.specs.Searching.{CanAsk, CanBegin, Decides, HaveRanges, schema_with}
pub use Rattle.zf_why.specs.Besides.{has_fewer}
pub use Rattle.zf_why.specs.Unheld.{flag, lacks, name_lacks}
pub use Rattle.zf_why.specs.HeldRows.{AreOutcomesIn, filled}
pub use Rattle.zf_why.specs.Disjuncts.{AreEach, CanTell, IsThat, moved_side, side_in}
