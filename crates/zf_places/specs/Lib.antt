pub mod Places
pub use Rattle.zf_places.specs.Places.{AreFirst, comps_at, values_at}
