pub mod Choices
pub mod Trials
pub use Rattle.zf_cores.specs.Choices.{chosen_of, HasChosen, IsChosen, IsLeft, IsMinimal}
pub use Rattle.zf_cores.specs.Trials.{IsFewer, OneOf}
