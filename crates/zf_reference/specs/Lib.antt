pub mod Numbering
pub mod NumberingViews
pub use Rattle.zf_reference.specs.Numbering.{renumbered}
pub use Rattle.zf_reference.specs.NumberingViews.{place_in}
