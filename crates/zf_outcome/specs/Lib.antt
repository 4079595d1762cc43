pub mod Prelude
pub mod Outcomes
pub mod Truths
pub mod Symbols
pub mod Found
pub mod Described
pub mod Gathered
pub mod Tallies
pub mod Connected
pub mod Arithmetic
pub use Rattle.zf_outcome.specs.Outcomes.{OnBoth, one_more, one_out, one_undefined, OnOne, OnSeveral, repeated, Several, values}
pub use Rattle.zf_outcome.specs.Truths.{HasTwo, IsAtom, IsConjunction, IsConnected, IsDisjunction, IsEquivalence, IsExists, IsExistsOne, IsForAll, IsLink, IsOver, IsQuantified, IsTest, IsTold, opposite, Tells}
pub use Rattle.zf_outcome.specs.Symbols.{BinaryOutcome, Compares, Holds, HoldsOf, InfixOutcome, IsIn, ListedOutcome, PrefixOutcome, SignOutcome, UnaryOutcome}
pub use Rattle.zf_outcome.specs.Found.{found_of, found_outcome}
unfoldable pub use Rattle.zf_outcome.specs.Described.{Describes, IsInDescribed, IsTruthIn}
pub use Rattle.zf_outcome.specs.Described.{IsDescribed, IsUnbuilt, IsWithin, told_in}
pub use Rattle.zf_outcome.specs.Gathered.{lack_with, several_by, several_of, values_with}
pub use Rattle.zf_outcome.specs.Tallies.{is_settled, none, truth_by, when_over, when_settled, with}
pub use Rattle.zf_outcome.specs.Connected.{conjunction, connected, connective_of, decided, disjunction, equivalence}
pub use Rattle.zf_outcome.specs.Arithmetic.{AreOrdered, IsFrom, NumbersOutcome}
