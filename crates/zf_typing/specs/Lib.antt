pub mod Prelude
pub mod Buckets
pub mod Scopes
pub mod ScopeViews
pub mod Typing
pub mod Resolving
pub mod Offences
pub mod Laws
pub mod Judging
unfoldable pub use Rattle.zf_typing.specs.Buckets.{AreHeads, bucket, IsIndexed}
pub use Rattle.zf_typing.specs.Buckets.{before, bucket_from, last_in}
pub use Rattle.zf_typing.specs.Scopes.{component_meaning, definition_sort, global_meaning, global_sort, last_named, meaning, Scope, Var, variable_meaning, with_variables}
unfoldable pub use Rattle.zf_typing.specs.ScopeViews.{scope_of}
pub use Rattle.zf_typing.specs.ScopeViews.{meant, variable_of}
pub use Rattle.zf_typing.specs.Typing.{AreAll, AreApart, AreMembers, Binds, Declare, HasMemberType, IsApart, IsOf, LinksAreTyped, Makes, member_need, member_sort, PartIsPredicate, row_type, types_of, variables}
pub use Rattle.zf_typing.specs.Resolving.{bound, referent, resolved, resolved_all, resolved_links, resolved_part, resolved_ranges}
pub use Rattle.zf_typing.specs.Offences.{BuildsTooLarge, Clash, Differ, Disagree, IsRepeated, LinksOffend, ListedTooLarge, MakesTooLarge, MakeTooLarge, Misplaced, Offends, OneDiffers, OneOffends, PartOffends, Repeats, SetsOffend}
pub use Rattle.zf_typing.specs.Laws.{NoOffence, OneSort}
unfoldable pub use Rattle.zf_typing.specs.Judging.{Judges, JudgesPart}
pub use Rattle.zf_typing.specs.Judging.{AreNew, AreRepeated, DeclarationsOffend, DiffersAt, is_conjunction, IsBinary, IsBound, IsComprehension, IsChain, IsJudged, IsOther, IsPart, IsQuantified, var_type}
