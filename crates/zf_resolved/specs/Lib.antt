pub mod Renamed
pub mod Behind
pub use Rattle.zf_resolved.specs.Renamed.{all_renamed, link_renamed, links_renamed, part_renamed, range_renamed, ranges_renamed, renamed}
pub use Rattle.zf_resolved.specs.Behind.{behind, onto, or_true, tree_in}
