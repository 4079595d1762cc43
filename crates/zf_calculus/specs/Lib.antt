pub mod Prelude
pub mod Calculus
pub mod CalculusLaws
pub mod Steps
pub mod Growth
pub use Rattle.zf_calculus.specs.Calculus.{Agree, Agrees, all_unchanged, carried, comp, comp_named, conjoined, decorated, delta, disjoined, either_comps, empty_schema, HasTypeOf, joined, MarkAgrees, marked, new_place, prime, schema_with, sets_on, unchanged, with_comp, with_comps, xi}
pub use Rattle.zf_calculus.specs.CalculusLaws.{AreOnce, EachOnce}
pub use Rattle.zf_calculus.specs.Steps.{Adds, Clashes, Differs, Includes, IsNext, MarkClashes, OneClashes, Stops}
pub use Rattle.zf_calculus.specs.Growth.{AreAt, constrained, counted, disjoined_over, either_comp, equalities, equality, grown, IfStopped, measured, place_found, place_named, place_of, place_or}
