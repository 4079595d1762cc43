-- What the proofs of this crate take from elsewhere, passed on from one place.
pub use Rattle.std.proofs.Common.{◌∙◌, ◌≡◌, ◌⊎◌, None, Option, Some, subst, sym, ⊎_elim}
pub use Rattle.std.proofs.lemmas.Result.{IfOk-weaker}
pub use Rattle.std.specs.Prelude.{MatchOption}
pub use Rattle.zf_tree.specs.{left_need}
pub use Rattle.zf_tree.specs.declared.operator.Rule.{Rule}
pub use Rattle.zf_sorts.specs.{Meets, predicate, Sort, sort_of}
unfoldable pub use Rattle.zf_sorts.specs.{IsMade}
