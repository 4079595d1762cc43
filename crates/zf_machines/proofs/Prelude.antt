-- What the proofs of this crate take from elsewhere, passed on from one place.
pub use Rattle.std.proofs.Common.{◌+◌, ◌<◌, ◌∙◌, ◌≡◌, ◌≤◌, ◌∷◌, [], ap, drop, get_or, inl, inr, length, List, map, subst, sym, ℕ, None, Option, refl, Some, ◌++◌, take}
pub use Rattle.std.proofs.lemmas.List.{drop_all, drop_more, take_all}
pub use Rattle.std.specs.List.{AllByRecursion}
pub use Rattle.zf_machines.specs.{FirstFails, AllowsSought, CanBeInitial, CanStep, HasShape, LacksBehind, LacksFirst, Named, Schemas, SoughtLacks, state_of, all_of, IsMachineOf, test_of, schemas_of, named_of, LacksStepFirst}
pub use Rattle.std.specs.Prelude.{MatchOption, option_to_list, unwrap_or}
pub use Rattle.zf_steps.specs.{LacksStep, CanSearch, CanSearchAll, IsInit, Operation, operation_in, System, system_of, operation_of, test_in, before_of, LacksInit}
pub use Rattle.zf_term.specs.{Comp, Schema, schema_of, comp_of}
pub use Rattle.zf_meaning.specs.{Environment, environment_of}
pub use Rattle.zf_reach.proofs.Fronts.{always_on_err, weaker_on_err}
pub use Rattle.zf_steps.proofs.Moving.{weaker_if_ok}
pub use Rattle.std.proofs.KnownBytes.{Appends-nil}
pub use Rattle.zf_term.specs.declared.schema.Component.{Component}
