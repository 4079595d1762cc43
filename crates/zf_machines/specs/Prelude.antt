-- What the definitions of this crate and its contracts take from elsewhere, passed on from one place.
pub use Rattle.std.specs.List.{AllByRecursion}
pub use Rattle.zf_meaning.specs.{Environment, environment_of}
pub use Rattle.zf_steps.specs.{both_states, CanBeSought, HasAll, IsInit, LacksInit, LacksSought, LacksStep, operation_in, System, test_in, with_strokes, CanSearch, explored_in, words, AreStates, before_of, operation_of, system_of, sought_in, verdict}
pub use Rattle.zf_term.specs.{Comp, Schema, schema_of}
pub use Rattle.std.specs.Io.KnownBytes.{Appends}
pub use Rattle.zf_graph.specs.{IsExplored, IsSearched}
pub use Rattle.zf_lines.specs.{device_of, failures_of, read_failures, write_failures}
pub use Rattle.zf_reach.specs.{ending_of, StopsEarly, result_of, StopsSearch}
