pub mod Prelude
pub mod Goals
pub mod Holding
pub mod Planting
pub mod Instances
pub use Rattle.zf_instances.specs.Goals.{planted_goal, with_first}
pub use Rattle.zf_instances.specs.Holding.{AreHeldAgain, CanHold}
pub use Rattle.zf_instances.specs.Planting.{ArePlanted, IsPlanted, NeedWithin, Plants, PlantsNext}
pub use Rattle.zf_instances.specs.Instances.{HaveSameEvents}
