pub mod Finite
pub mod FiniteLaws
pub use Rattle.zf_finite.specs.Finite.{all_plain_spans, all_set_offenders, bounds, cause_span, causes, comp_causes, first_plain, IsFinite, one_bounds, plain_spans, set_offenders, unbounded}
pub use Rattle.zf_finite.specs.FiniteLaws.{FiniteWithoutCause}
