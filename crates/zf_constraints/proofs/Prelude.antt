-- What the proofs of this crate take from elsewhere, passed on from one place.
pub use Rattle.std.proofs.Common.{◌++◌, ◌∙◌, ◌∷◌, ◌≡◌, [], ap, arith, drop, length, List, map, Option, sym, take, ℕ}
pub use Rattle.std.proofs.lemmas.List.{append-nil, append_assoc, map-append}
pub use Rattle.std.proofs.lemmas.Result.{IfOk-weaker, on_ok_weaker}
pub use Rattle.zf_term.proofs.SetsSeen.{of-Carrier, of-Either, of-Plain}
pub use Rattle.zf_data.specs.{all_of}
pub use Rattle.zf_term.specs.declared.conjunct.Batch.{Batch}
pub use Rattle.zf_term.specs.{batch_of, comp_of, conjunct_of, DeclaredSet, is_member, moved, numbering, resolved_of, ResolvedTree, schema_of, set_of}
pub use Rattle.zf_term.specs.declared.conjunct.Conjunct.{Conjunct}
pub use Rattle.zf_term.specs.declared.schema.Component.{Component}
pub use Rattle.zf_term.specs.declared.schema.Domain.{Domain}
pub use Rattle.zf_term.specs.declared.resolved.Resolved.{Resolved}
pub use Rattle.zf_term.specs.declared.ztype.ZType.{ZType}
pub use Rattle.zf_constraints.specs.{membership, memberships}
