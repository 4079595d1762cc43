pub mod Families
pub mod Selections
pub mod Tests
pub mod Counts
unfoldable pub use Rattle.zf_families.specs.Families.{AreArrows, IsArrow, IsTupleFrom}
pub use Rattle.zf_families.specs.Families.{IsOfKind}
pub use Rattle.zf_families.specs.Selections.{AllAscend, AreSets, arrow_rows, extended, extensions, fits_any, fits_apart, fitting, pairs, second, second_at, singles, some, whole}
unfoldable pub use Rattle.zf_families.specs.Tests.{IsArrowFrom, IsPairFrom, IsPairOn}
pub use Rattle.zf_families.specs.Tests.{first, first_at, firsts_rise, IsGraph, seconds_apart}
pub use Rattle.zf_families.specs.Counts.{arrow_count, falling, partial_injection_count, sizes, stepped}
