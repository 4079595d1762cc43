-- How a value with several owners is stored in an arena, so that a type may contain itself through it. No public clause rests on this file.
use mathlib.Core.Path.{refl}
use mathlib.Core.Former.{Former, this, const, pair, via}
use base.Stored.{gnil}
use base.Fml.{ftrue}
use denote.RattleType.{RattleType}
use denote.Memory.{part_of}
use denote.RawPtr.{Ptr}
use denote.Ref.{NamedLft}
use denote.Sharing.{nothing}
use denote.HoleLaws.{Alike}
use denote.HolePlaces.{Recodes, struct_places, laid, one_value}
use denote.Hole.Fix.{over}
use denote.Param.Weighed.{Weighed}
use denote.Model.Placed.{view_places}
use Rattle.std.specs.declared.mem.ManuallyDrop.{ManuallyDrop}
use Rattle.std.specs.contracts.mem.ManuallyDrop as kept
use Rattle.std.specs.declared.rc.Rc.{Rc}
use Rattle.std.specs.contracts.rc.Rc as counted
use Rattle.std.specs.declared.alloc.Allocator.{Ghosts}
use Rattle.std.specs.contracts.impls.GlobalAllocator.TheImpl.{ghosts}
use denote.Struct.Field.{shr_ref_field}
use Rattle.std.specs.contracts.prelude.RefAllocator.TheImpl as by_ref
use Rattle.std.specs.contracts.alloc.Global as heap
use Rattle.bumpalo.specs.contracts.bump.Bump as arena
use Rattle.bumpalo.specs.contracts.bump.BumpAllocator.TheImpl as of_bump
use Rattle.zf_data.specs.declared.arena.shared.Shared.TheInside.{Inside}
use Rattle.zf_data.specs.declared.arena.shared.Shared.TheView.{view, invariant}
use Rattle.zf_data.specs.contracts.arena.shared.Shared as contracts
use Rattle.zf_data.specs.contracts.arena.shared.Shared.TheInside as inside

abbrev pub the_former : Former {0} → Former {0}
the_former former = former

abbrev pub the_weighed : {former : Former {0}} → Weighed former → Weighed (the_former former)
the_weighed weight = weight

-- the one field, an `Rc`: where it points to, and the value there
abbrev field : Former {0}
field = via (pair (const Ptr) this) Inside (λ X b. (b.inner.value.ptr, b.inner.value.value))
    (λ X v. record { inner = record { value = record { ptr = v.0; value = v.1 } } }) (λ X b. refl) (λ X v. refl)

abbrev holding : {X Y H : Type 0} → ManuallyDrop (Rc X H) → Y → ManuallyDrop (Rc Y H)
holding b y = record { value = record { ptr = b.value.ptr; value = y } }

module _ (H : RattleType) (freed : Ghosts H.Denot) where
  abbrev counted_of : RattleType → RattleType
  counted_of R = kept.the_row (counted.the_row R H freed)

  module _ (R S : RattleType) (h : R.Denot → S.Denot) where
    counted_places : Alike R S h → Alike (counted_of R) (counted_of S) (λ b. holding b (h b.value.value))
    unfolding part_of
    counted_places alike = record {
      mir_same = λ i. (counted_of (one_value R (alike.mir_same i) (λ _. ftrue) (λ _ _. nothing) gnil)).mir;
      own_same = λ b i. (counted_of (one_value R (alike.mir_same i) (alike.own_same b.value.value i) (alike.shr_same b.value.value i) gnil)).own_val (holding b tt);
      shr_same = λ b i. (counted_of (one_value R (alike.mir_same i) (alike.own_same b.value.value i) (alike.shr_same b.value.value i) gnil)).shr_at (holding b tt);
    }

module _ {a : NamedLft} (R S : RattleType) (h : R.Denot → S.Denot) where
  pub the_places : Alike R S h → Alike (contracts.the_row a R) (contracts.the_row a S) ((the_former this).map R.Denot S.Denot h)
  the_places alike =
      let places = struct_places (inside.the_type a R) (inside.the_type a S) ((λ b. holding b (h b.value.value)), tt) _ (λ d. refl) refl (laid _ _ _ (counted_places (shr_ref_field a (arena.the_row heap.the_row ghosts) tt).row (by_ref.ghosts (arena.the_row heap.the_row ghosts) (of_bump.ghosts heap.the_row ghosts of_bump.no_dict of_bump.no_dict) by_ref.no_dict by_ref.no_dict) R S h alike), tt) in
      view_places field this view (λ X Y k u. refl) (λ X u. refl) R.Denot S.Denot h (contracts.the_row a R).coded (contracts.the_row a S).coded
      (invariant R.Denot) (invariant S.Denot) (λ u p q. refl) (λ u p q. refl) (λ u e. tt) (λ u e. tt) (over (inside.the_row a R)) (over (inside.the_row a S)) places

-- the lifetime is no part of the code
pub the_codes_placed : (R S : RattleType) (h : R.Denot → S.Denot) → Recodes R S h → Recodes R S h
the_codes_placed R S h recodes = recodes
