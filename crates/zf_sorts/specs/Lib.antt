pub mod Rules
pub mod RuleViews
pub mod Refusals
pub use Rattle.zf_sorts.specs.Rules.{a_schema, constant_sort, Disagreement, IsSmallSort, Meets, number_sort, predicate, PrefixTakes, relation_sort, set_sort, SignTakes, Sort, Takes, typed, UnaryTakes}
unfoldable pub use Rattle.zf_sorts.specs.RuleViews.{IsMade, IsMadeOfOne}
pub use Rattle.zf_sorts.specs.RuleViews.{sort_of, unfitting}
pub use Rattle.zf_sorts.specs.Refusals.{fault_of, IfFault, IsRefusal, IsStill, offence_of}
