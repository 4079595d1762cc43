pub mod Prelude
pub mod Environments
pub mod NumberSets
pub mod Meaning
pub mod Sizes
pub mod GlobalOutcomes
pub mod Rows
pub mod Carriers
pub mod Lookups
pub mod Laws
pub mod Envs
pub mod InRow
pub mod Places
pub mod Rowed
pub mod Linked
pub mod Scopes
pub mod Forms
pub mod RangeSets
pub mod Building
pub mod Needs
pub mod Early
pub mod Counting
pub use Rattle.zf_meaning.specs.Environments.{before, Context, definition_number, element, element_count, Environment, globally, IsTypeSet, outcome_in, type_number, within}
pub use Rattle.zf_meaning.specs.NumberSets.{infinite_in, IsNumberSet, least, unended}
pub use Rattle.zf_meaning.specs.Meaning.{AreLinked, Builds, constant_truth, HasOutcome, HaveOutcomes, HaveRanges, infinite_right, IsBuilt, IsBuiltBy, IsBuiltOver, IsConstantOutcome, IsConstraint, IsOutOfBounds, IsTruth, IsWithinBounds, row_value}
pub use Rattle.zf_meaning.specs.Sizes.{AddsSize, AreAccepted, AreComplete, AreSizes, given_sets, IsAccepted, IsRefusal, IsSizeFault, IsStated, LacksSize, names, RefusesSize, with_given}
pub use Rattle.zf_meaning.specs.GlobalOutcomes.{AreWorkedOut, IsEnvironment, IsOutcomeOf, IsWorkedOut}
pub use Rattle.zf_meaning.specs.Rows.{AreOfTypes, IsExistingElement, IsOfType, IsRow}
pub use Rattle.zf_meaning.specs.Carriers.{AreCarriers, IsCarrier}
pub use Rattle.zf_meaning.specs.Lookups.{AreElementsIf, found_number, IsTypeSetIf, outcome_or, value_or}
pub use Rattle.zf_meaning.specs.Laws.{AreBelow, IsBelow, OneCarrier, OneEnvironment, OneOutcome, OneTruth, OutcomesStay, TruthsStay, UsesFirst, with_further}
pub use Rattle.zf_meaning.specs.Envs.{environment_of, longer}
unfoldable pub use Rattle.zf_meaning.specs.InRow.{IsBehind}
pub use Rattle.zf_meaning.specs.InRow.{in_row}
unfoldable pub use Rattle.zf_meaning.specs.Places.{all_rows, ArePlaces, picked, rows_after}
pub use Rattle.zf_meaning.specs.Places.{headed, headed_from, IsAmong, seen, with_value_at}
pub use Rattle.zf_meaning.specs.Rowed.{ahead, AreOthers, IsAt, IsFirst, IsNext, IsPassed, lists_of, row_of, Skips}
unfoldable pub use Rattle.zf_meaning.specs.Linked.{IsLastLink}
pub use Rattle.zf_meaning.specs.Scopes.{scope_of}
pub use Rattle.zf_meaning.specs.Forms.{IsBinary, IsComprehension, IsChain, IsQuantified}
pub use Rattle.zf_meaning.specs.RangeSets.{declared_of, sets_with, spread}
pub use Rattle.zf_meaning.specs.Building.{AddsRow, AddsValue}
pub use Rattle.zf_meaning.specs.Needs.{all_need, links_need, need, part_need, place_below, ranges_need}
unfoldable pub use Rattle.zf_meaning.specs.Early.{ArePassed, Falsifies, IsNeutral, Refutes, Wants}
pub use Rattle.zf_meaning.specs.Early.{AreNeutral, AreNeutralIf, ArePassedIf, IsBound, IsEarlier, IsEquation, IsOther, IsPart, IsPiece, IsVariable, IsWanted, NeedsFront, neutral, PassesBy}
pub use Rattle.zf_meaning.specs.Counting.{CountsAt, CountsBy, CountsFor, given_at, given_by}
