pub mod Extents
pub use Rattle.zf_extent.specs.Extents.{all_offending, constant_set, definition_extent, direct, extent_by, extent_found, extent_named, extent_of, extent_set, first, is_last, is_membership, links_offending, name_offenders, offender_span, offending, offending_within, part_offending, ranges_offending, tested, unless}
