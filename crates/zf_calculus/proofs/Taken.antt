-- A schema that is taken into the one of no declarations is itself, where its components have names of their own.
use Rattle.zf_calculus.proofs.Prelude.{if◌then◌else◌, ◌++◌, ◌∙◌, ◌∷◌, ◌≡◌, [], add-one, ap, Bool, false, List, None, Option, refl, slice_get, Some, subst, suc, sym, true, zero, ℕ, append-nil, append_assoc, none-some, same_Some, AllByRecursion, bytes_eq, unmoved, is_itself, is_same, swapped, Comp, Schema, later, ResolvedTree, moved, fun_ext, AreOnce, carried, comp_named, conjoined, empty_schema, new_place, place_of, place_or, schema_with, with_comp, with_comps}
use Rattle.zf_calculus.proofs.Merging.{new_last, nothing_before, none_known}
use Rattle.zf_calculus.proofs.Renumbering.{all_same}

-- ---- components

-- no component of the other list has the name of one here
abbrev AreNew : List Comp → List Comp → Type 0
AreNew cs ds = AllByRecursion (λ d. comp_named d.name cs ≡ None) ds

new_to_none : (ds : List Comp) → AreNew [] ds
new_to_none [] = tt
new_to_none (d ∷ ds) = (refl, new_to_none ds)

still_new : (cs ds : List Comp) (c : Comp) → comp_named c.name ds ≡ None → AreNew cs ds → AreNew (with_comp cs c) ds
still_new cs [] c none new = tt
still_new cs (d ∷ ds) c none new =
    let others = nothing_before (bytes_eq d.name c.name) (0, d) (comp_named c.name ds) none in
    (none_known d.name cs c new.0 (swapped c.name d.name ∙ others.0), still_new cs ds c others.1 new.1)

all_new : (cs ds : List Comp) → AreOnce ds → AreNew cs ds → with_comps cs ds ≡ cs ++ ds
all_new cs [] once new = sym (append-nil cs)
all_new cs (d ∷ ds) once new =
    all_new (with_comp cs d) ds once.1 (still_new cs ds d once.0 new.1) ∙ ap (λ (es : List Comp). es ++ ds) (new_last cs d new.0) ∙ append_assoc cs (d ∷ []) ds

-- ---- places

named_at : (ds : List Comp) (i : ℕ) (c : Comp) → AreOnce ds → slice_get ds i ≡ Some c → comp_named c.name ds ≡ Some (i, c)
named_at [] i c once e = absurd (none-some c e)
named_at (d ∷ ds) zero c once e = subst (λ (x : Comp). comp_named x.name (d ∷ ds) ≡ Some (0, x)) (same_Some d c e) (itself (bytes_eq d.name d.name) (is_itself d.name))
  where
    itself : (t : Bool) → t ≡ true → (if t then Some (0, d) else later (comp_named d.name ds)) ≡ Some (0, d)
    itself true e = refl
    itself false e = absurd (cc)
named_at (d ∷ ds) (suc i) c once e = by (bytes_eq d.name c.name) (is_same d.name c.name) (named_at ds i c once.1 e)
  where
    by : (t : Bool) → (t ≡ true → d.name ≡ c.name) → comp_named c.name ds ≡ Some (i, c) → (if t then Some (0, d) else later (comp_named c.name ds)) ≡ Some (suc i, c)
    by true same rest = absurd (none-some (i, c) (sym (subst (λ (x : List ℕ). comp_named x ds ≡ None) (same refl) once.0) ∙ rest))
    by false same rest = ap later rest ∙ ap (λ (n : ℕ). Some (n, c)) (add-one i)

own_place : (ds : List Comp) (i : ℕ) → AreOnce ds → new_place ds ds i ≡ i
own_place ds i once = by (slice_get ds i) (λ c. named_at ds i c once)
  where
    by : (o : Option Comp) → ((c : Comp) → o ≡ Some c → comp_named c.name ds ≡ Some (i, c)) → place_of o ds i ≡ i
    by None at = refl
    by (Some c) at = ap (λ (p : Option (ℕ × Comp)). place_or p i) (at c refl)

none_carried : (ds : List Comp) (ts : List ResolvedTree) → AreOnce ds → carried ds ds ts ≡ ts
none_carried ds ts once =
    all_same (moved (new_place ds ds)) ts (λ t. ap (λ (f : ℕ → ℕ). moved f t) (fun_ext (λ i. own_place ds i once)) ∙ unmoved t)

-- ---- schemas

pub taken_whole : (a b : Schema) → a ≡ empty_schema → AreOnce b.comps → b ≡ conjoined a b
taken_whole a b e once =
    let joined = all_new [] b.comps once (new_to_none b.comps) in
    sym (ap (λ (s : Schema). conjoined s b) e ∙ ap (λ (cs : List Comp). schema_with cs (carried b.comps cs b.conjuncts)) joined
    ∙ ap (λ (ts : List ResolvedTree). schema_with b.comps ts) (none_carried b.comps b.conjuncts once))
