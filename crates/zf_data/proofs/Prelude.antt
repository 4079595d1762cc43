-- What the proofs of this crate take from elsewhere, passed on from one place.
pub use Rattle.std.proofs.Common.{◌++◌, ◌∙◌, ◌∷◌, ◌≡◌, ◌≤◌, [], ap, Err, false, List, refl, subst, sym, T, w64}
pub use Rattle.std.proofs.RcSteps.{Ptr-Good}
pub use Rattle.std.proofs.alloc.Calls.{Al, Answer, Answer-err, Answer-typed, answer_val, Goes-blank, token}
pub use Rattle.std.proofs.raw_atomic.Walks.{leaves, proved, proved_at}
pub use Rattle.std.specs.Allocator.{block_with_items, FitsBlock}
pub use base.Fml.{flft, Fml, fsep, ftrue}
pub use base.Logic.{emp, ent, fst∗, id⊢, never, SProp}
pub use contract.BorrowLft.{◌⊑◌, ⊑_static}
pub use contract.Monad.{fact, fact_i}
pub use denote.Builtin.{RefOf, usize}
pub use denote.Exit.{no, yes}
pub use denote.Param.{arg, bounded, layout, param}
pub use denote.Plain.{uint_Tells, uint_vals}
pub use denote.RattleType.{owns, RattleType}
pub use denote.RawPtr.{block_ptr, in_a_block, null_ptr, Ptr, ptr_val, RawPtr, rawptr_Tells, rawptr_vals}
pub use denote.Ref.{shr_vals}
pub use denote.Signature.{plain, Slot, types_at}
pub use denote.Steps.{heard, nothing, only}
pub use denote.Triple.Clauses.{Ended, Lasts, lasts}
pub use denote.Triple.Walked.{ends_at, Goes-dropped, stay_dropped, Stays, walk_of}
pub use mir.MapTy.{inst_fn}
pub use mir.Syntax.{a_type, dcons, Dict, dnil, impl, tcons, tnil, Ty, ty_struct}
pub use mir.Val.{has_ty, Val, vnil, vptr, vstruct, vunit, WT}
pub use types.ByLocal.{alloc_all, env, free_all, get, is, lands_as, lands_last, look_at, pass_all, sets}
pub use types.Kit.{◌$◌, ◌∵◌, ◌⊛◌, !, ‵, at_ret, await, by, done, drop, feq_i, feq_l, fjoin, fjoin3, fsplit, Item, join, keep, later, move, pick, qed, raw, some, split, split3, suffices, use0, use1}
pub use types.Part.{agg}
pub use types.Run.{and_then, blocks, enter, exec, first, lit, no_more, of_opd, returns, unit_lit}
