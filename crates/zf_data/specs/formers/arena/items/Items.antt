-- How a list stores its items, so that a type may contain itself through it. No public clause rests on this file.
use mathlib.Core.Path.{◌≡◌, refl, sym}
use mathlib.Core.List.{List, []}
use mathlib.Core.Former.{Former, this, list, via, children}
use base.Stored.{code_map, code_l, gnil}
use base.Fml.{ftrue}
use denote.Memory.{part_of}
use denote.Sharing.{nothing}
use mathlib.Core.List.{map}
use denote.RattleType.{RattleType}
use denote.HoleLaws.{Alike}
use denote.HolePlaces.{Recodes, struct_places, laid}
use denote.Hole.Carrier.{listed, list-listed}
use denote.Hole.Fix.{over}
use denote.Param.Weighed.{Weighed, w_list}
use denote.Model.Placed.{view_places}
use Rattle.std.specs.formers.vec.Vec as vec
use Rattle.std.specs.declared.alloc.Global.{Global}
use denote.Bor.{Bor}
use denote.Ref.{NamedLft}
use denote.HolePlaces.{one_value}
use denote.Struct.Field.{shr_ref_field}
use Rattle.std.specs.contracts.mem.ManuallyDrop as kept
use Rattle.std.specs.contracts.prelude.RefAllocator.TheImpl as by_ref
use Rattle.std.specs.contracts.alloc.Global as heap
use Rattle.bumpalo.specs.contracts.bump.Bump as arena
use Rattle.bumpalo.specs.contracts.bump.BumpAllocator.TheImpl as of_bump
use Rattle.bumpalo.specs.declared.bump.Bump.{Bump}
use Rattle.std.specs.contracts.impls.GlobalAllocator.TheImpl.{ghosts}
use Rattle.zf_data.specs.declared.arena.items.Items.TheInside.{Inside}
use Rattle.zf_data.specs.declared.arena.items.Items.TheView.{view, invariant}
use Rattle.zf_data.specs.contracts.arena.items.Items as contracts
use Rattle.zf_data.specs.contracts.arena.items.Items.TheInside as inside

abbrev pub the_former : Former {0} → Former {0}
the_former former = list former

abbrev pub the_weighed : {former : Former {0}} → Weighed former → Weighed (the_former former)
the_weighed weight = w_list weight

abbrev pub the_empty : List ⊥
the_empty = []

abbrev pub the_items : (X : Type 0) → List X → List X
the_items X xs = xs

pub the_items_listed : (X : Type 0) (xs : List X) → listed _ (children (the_former this) X xs) ≡ the_items X xs
the_items_listed X xs = list-listed X xs

-- the one field, a `Vec`
abbrev field : Former {0}
field = via (vec.the_former this (Bor (Bump Global ghosts))) Inside (λ X s. s.items.value) (λ X v. record { items = record { value = v } }) (λ X s. refl) (λ X v. refl)

module _ (V W : RattleType) (f : V.Denot → W.Denot) where
  kept_places : Alike V W f → Alike (kept.the_row V) (kept.the_row W) (λ m. record { value = f m.value })
  unfolding part_of
  kept_places alike = record {
    mir_same = λ i. (kept.the_row (one_value V (alike.mir_same i) (λ _. ftrue) (λ _ _. nothing) gnil)).mir;
    own_same = λ b i. (kept.the_row (one_value V (alike.mir_same i) (alike.own_same b.value i) (alike.shr_same b.value i) gnil)).own_val (record { value = tt });
    shr_same = λ b i. (kept.the_row (one_value V (alike.mir_same i) (alike.own_same b.value i) (alike.shr_same b.value i) gnil)).shr_at (record { value = tt });
  }

abbrev arena_of : NamedLft → RattleType
arena_of a = (shr_ref_field a (arena.the_row heap.the_row ghosts) tt).row

module _ {a : NamedLft} (R S : RattleType) (h : R.Denot → S.Denot) where
  pub the_places : Alike R S h → Alike (contracts.the_row a R) (contracts.the_row a S) ((the_former this).map R.Denot S.Denot h)
  the_places alike =
      let inner = vec.the_places (arena_of a) (by_ref.ghosts (arena.the_row heap.the_row ghosts) (of_bump.ghosts heap.the_row ghosts of_bump.no_dict of_bump.no_dict) by_ref.no_dict by_ref.no_dict) R S h alike in
      let places = struct_places (inside.the_type a R) (inside.the_type a S) ((λ m. record { value = vec.mapped h m.value }), tt) _ (λ d. refl) refl (laid _ _ _ (kept_places _ _ _ inner), tt) in
      view_places field (list this) view (λ X Y k u. refl) (λ X u. refl) R.Denot S.Denot h (contracts.the_row a R).coded (contracts.the_row a S).coded
      (invariant R.Denot) (invariant S.Denot) (λ u p q. refl) (λ u p q. refl) (λ u e. tt) (λ u e. tt) (over (inside.the_row a R)) (over (inside.the_row a S)) places

-- the lifetime is no part of the code
pub the_codes_placed : (R S : RattleType) (h : R.Denot → S.Denot) → Recodes R S h → (xs : List R.Denot) → code_l S.coded.code (map h xs) ≡ code_l R.coded.code xs
the_codes_placed R S h recodes xs = sym (code_map R.coded.code S.coded.code h (λ x. sym (recodes x)) xs)
