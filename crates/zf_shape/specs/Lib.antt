pub mod Greatest
pub mod Joined
pub use Rattle.zf_shape.specs.Greatest.{all_greatest, greatest, links_greatest, part_greatest, place_after, ranges_greatest}
pub use Rattle.zf_shape.specs.Joined.{anywhere, AreLow}
