-- What the definitions of this crate and its contracts take from elsewhere, passed on from one place.
pub use Rattle.zf_cores.specs.{chosen_of, IsFewer, HasChosen, IsChosen, IsLeft, IsMinimal, OneOf}
pub use Rattle.zf_term.specs.{Comp, ResolvedTree, Schema, bracket, chain, link, no_links, references, ResolvedLinks, sets_of, one_holds, from_to, reference, term_span, comp_of, conjunct_of, schema_of, links, resolved_link_of, resolved_of, batch_of, moved, numbering}
pub use Rattle.zf_value.specs.declared.plain.Value.{Value}
pub use Rattle.zf_meaning.specs.{Environment, Context, HasOutcome, in_row, IsTruth, environment_of}
pub use Rattle.zf_ranges.specs.{first_held, IsHeld, IsInSets, later_held, IsNoneOut, RefusesStart}
pub use Rattle.zf_reference.specs.declared.reference.Reference.{Reference}
pub use Rattle.std.specs.List.{AllByRecursion}
pub use Rattle.zf_finite.specs.{all_set_offenders, one_bounds, IsFinite}
pub use Rattle.zf_enum.specs.{due, property, Begins, portion}
