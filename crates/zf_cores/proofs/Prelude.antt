-- What the proofs of this crate take from elsewhere, passed on from one place.
pub use Rattle.std.proofs.Common.{◌++◌, ◌+◌, ◌<◌, ◌≤◌, ◌∙◌, ◌∷◌, ◌≡◌, [], add-one, ap, append-nil, append_assoc, arith, Bool, true, false, drop, length, List, map, Some, refl, subst, suc, sym, zero, ℕ}
pub use Rattle.std.specs.List.{AllByRecursion}
pub use Rattle.std.specs.Prelude.{slice_get, slice_set, replicate}
pub use Rattle.zf_cores.specs.{chosen_of, IsChosen, IsFewer, IsMinimal, OneOf}
pub use Rattle.std.proofs.lemmas.List.{drop_all, length-replicate, length-set}
