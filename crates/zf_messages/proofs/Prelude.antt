-- What the proofs of this crate take from elsewhere, passed on from one place.
pub use Rattle.std.proofs.Common.{◌++◌, ◌+◌, ◌-◌, ◌<◌, ◌∙◌, ◌∷◌, ◌≡◌, ◌==◌, ◌≤◌, [], add-one, ap, append_assoc, arith, drop, get_or, if◌then◌else◌, length, List, refl, suc, sym, zero, ℕ, codes, map, take}
pub use Rattle.zf_term.specs.{Defined, globals_of}
pub use Rattle.zf_messages.specs.{schema_at, schemas, detail, first_like, and_name}
