pub mod Prelude
pub mod Explorations
pub mod Jobs
pub mod Written
pub mod Statuses
pub use Rattle.zf_engine.specs.Explorations.{AreSchemasOf, ending_status, ExplorationAnswer, ExplorationBegins, ExploresMachine, form_of, HasInfinite, HasLacking, HasOut, HasSchemas, IsBounded, IsSchemaOf, IsSearchable, IsSettled, LacksSchema, names_of, RefusesExploration, result_status, Seeks, states_limit, TellsMachine}
pub use Rattle.zf_engine.specs.Jobs.{Answer, AnswersReader, AnswersSource, format_of, IsLimited, IsPartOfAnswer, JobAnswer, JobBegins, ShowAnswer, ShowBegins, ShowsEvents, ShowsParts, StopsInReader, TellsShown, wants_details, wording}
pub use Rattle.zf_engine.specs.Written.{AnswersExploration, IsUnexplored, Reaches, Shows, StopsInSource, Writes}
pub use Rattle.zf_engine.specs.Statuses.{IsStatus, IsStatusOfRefused, IsWorkStatus, refused_number, status_max}
