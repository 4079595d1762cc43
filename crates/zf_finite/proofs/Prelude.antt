-- What the proofs of this crate take from elsewhere, passed on from one place.
pub use Rattle.std.proofs.Common.{if◌then◌else◌, ◌++◌, ◌+◌, ◌<◌, ◌∙◌, ◌∷◌, ◌≡◌, [], ap, Bool, drop, false, flat_map, get_or, IsTrue, length, List, map, None, Option, option_map, refl, Some, subst, sym, true, true≢false, ℕ}
pub use Rattle.std.proofs.lemmas.List.Concat.{flat_map-cons}
pub use Rattle.zf_tree.specs.declared.span.Span.{Span}
pub use Rattle.zf_term.specs.{Comp, comp_of, conjunct_of, Defined, globals_of, ResolvedTree, Schema, schema_of, set_of, sets_of}
pub use Rattle.std.specs.Option.{option_or}
pub use Rattle.zf_extent.specs.declared.offender.Offender.{Offender}
pub use Rattle.zf_extent.specs.{first, offending, unless}
pub use Rattle.zf_finite.specs.declared.not_finite.NotFinite.TheVariants.{Offends}
pub use Rattle.zf_finite.specs.{all_plain_spans, all_set_offenders, causes, comp_causes, FiniteWithoutCause, IsFinite, one_bounds, plain_spans, set_offenders, unbounded}
