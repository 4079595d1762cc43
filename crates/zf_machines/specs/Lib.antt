pub mod Prelude
pub mod Firsts
pub mod Machines
pub mod SchemaViews
pub use Rattle.zf_machines.specs.Firsts.{FirstFails}
pub use Rattle.zf_machines.specs.Machines.{all_of, AllowsSought, CanBeInitial, CanStep, HasShape, IsMachineOf, LacksBehind, LacksFirst, LacksStepFirst, Named, Schemas, SoughtLacks, state_of, test_of}
pub use Rattle.zf_machines.specs.SchemaViews.{named_of, schemas_of}
