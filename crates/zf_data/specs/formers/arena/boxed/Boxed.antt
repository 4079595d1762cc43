-- How a box stores its value, so that a type may contain itself through it. No public clause rests on this file.
use mathlib.Core.Path.{refl}
use mathlib.Core.List.{List}
use mathlib.Core.Former.{Former, this, const, pair, via}
use base.Stored.{gnil}
use base.Fml.{ftrue}
use denote.RattleType.{RattleType}
use denote.Memory.{part_of}
use denote.RawPtr.{Ptr}
use denote.Bor.{Bor}
use denote.Ref.{NamedLft}
use denote.Sharing.{nothing}
use denote.HoleLaws.{Alike}
use denote.HolePlaces.{Recodes, struct_places, laid, one_value}
use denote.Hole.Fix.{over}
use denote.Param.Weighed.{Weighed}
use denote.Model.Placed.{view_places}
use Rattle.std.specs.declared.mem.ManuallyDrop.{ManuallyDrop}
use Rattle.std.specs.contracts.mem.ManuallyDrop as kept
use Rattle.std.specs.declared.alloc.Global.{Global}
use Rattle.std.specs.contracts.impls.GlobalAllocator.TheImpl.{ghosts}
use Rattle.bumpalo.specs.declared.bump.Bump.{Bump}
use Rattle.std.specs.declared.boxed.Box.{Box}
use Rattle.std.specs.contracts.boxed.Box as heap_box
use Rattle.zf_data.specs.declared.arena.nowhere.Nowhere.{Nowhere}
use Rattle.zf_data.specs.contracts.arena.nowhere.Nowhere as nowhere
use Rattle.zf_data.specs.contracts.arena.nowhere.NowhereAllocator.TheImpl as never
use Rattle.zf_data.specs.declared.arena.boxed.Boxed.TheInside.{Inside}
use Rattle.zf_data.specs.declared.arena.boxed.Boxed.TheView.{view, invariant}
use Rattle.zf_data.specs.contracts.arena.boxed.Boxed as contracts
use Rattle.zf_data.specs.contracts.arena.boxed.Boxed.TheInside as inside

abbrev pub the_former : Former {0} → Former {0}
the_former former = former

abbrev pub the_weighed : {former : Former {0}} → Weighed former → Weighed (the_former former)
the_weighed weight = weight

abbrev Arena : Type 0
Arena = Bor (Bump Global ghosts)

-- the two fields, a `Box` and the lifetime's name: where the box points to, and the value there
abbrev field : Former {0}
field = via (pair (const (Ptr × List Arena)) this) Inside (λ X b. ((b.inner.value.ptr, b.arena), b.inner.value.value))
    (λ X v. record { inner = record { value = record { ptr = v.0.0; alloc = record {}; value = v.1 } }; arena = v.0.1 }) (λ X b. refl) (λ X v. refl)

abbrev Held : Type 0 → Type 0
Held X = ManuallyDrop (Box X Nowhere)

abbrev holding : {X Y : Type 0} → Held X → Y → Held Y
holding b y = record { value = record { ptr = b.value.ptr; alloc = b.value.alloc; value = y } }

abbrev box_of : RattleType → RattleType
box_of R = kept.the_row (heap_box.the_row R nowhere.the_row never.ghosts)

module _ (R S : RattleType) (h : R.Denot → S.Denot) where
  box_places : Alike R S h → Alike (box_of R) (box_of S) (λ b. holding b (h b.value.value))
  unfolding part_of
  box_places alike = record {
    mir_same = λ i. (box_of (one_value R (alike.mir_same i) (λ _. ftrue) (λ _ _. nothing) gnil)).mir;
    own_same = λ b i. (box_of (one_value R (alike.mir_same i) (alike.own_same b.value.value i) (alike.shr_same b.value.value i) gnil)).own_val (holding b tt);
    shr_same = λ b i. (box_of (one_value R (alike.mir_same i) (alike.own_same b.value.value i) (alike.shr_same b.value.value i) gnil)).shr_at (holding b tt);
  }

module _ {a : NamedLft} (R S : RattleType) (h : R.Denot → S.Denot) where
  pub the_places : Alike R S h → Alike (contracts.the_row a R) (contracts.the_row a S) ((the_former this).map R.Denot S.Denot h)
  the_places alike =
      let places = struct_places (inside.the_type a R) (inside.the_type a S) ((λ b. holding b (h b.value.value)), ((λ m. m), tt)) _ (λ d. refl) refl (laid _ _ _ (box_places R S h alike), ((refl, (λ m. refl, λ m. refl)), tt)) in
      view_places field this view (λ X Y k u. refl) (λ X u. refl) R.Denot S.Denot h (contracts.the_row a R).coded (contracts.the_row a S).coded
      (invariant R.Denot) (invariant S.Denot) (λ u p q. refl) (λ u p q. refl) (λ u e. tt) (λ u e. tt) (over (inside.the_row a R)) (over (inside.the_row a S)) places

-- the lifetime is no part of the code
pub the_codes_placed : (R S : RattleType) (h : R.Denot → S.Denot) → Recodes R S h → Recodes R S h
the_codes_placed R S h recodes = recodes
