-- Values of types: the sets, pairs and tuples that are made of them, and the parts that these have.
use Rattle.law_sound.proofs.Prelude.{◌∙◌, ◌∷◌, ◌≡◌, ◌≤◌, [], ap, length, List, refl, subst, sym, ℤ, every_at, every_from, members-SetOf, parts-Tuple, IsNumber, Relates, IsAscending, IsMember, IsSetOf, members, parts, SET_MAX, Is, Tuple, Value, int, no_types, pair_type, power, product, Ty, type, Tys, Environment, AreOfTypes, IsOfType, Undefined}
use Rattle.zf_value.specs.Operations as op

-- ---- what can't be

pub never_undefined : {A : Type 0} (v : Value) → Is v ≡ Undefined → A
never_undefined v h = absurd (cc)

pub is_value : (w u : Value) → Is w ≡ Is u → w ≡ u
is_value w u q = cc

pub cons_not_nil : {X : Type 0} (w : Value) (ws : List Value) → w ∷ ws ≡ [] → X
cons_not_nil w ws e = absurd (cc)

pub nil_not_cons : {X : Type 0} (w : Value) (ws : List Value) → [] ≡ w ∷ ws → X
nil_not_cons w ws e = absurd (cc)

-- ---- sets

-- the members of a set of the type
pub record AreMembers (e : Environment) (t : Ty) (xs : List Value) : Type 0 where
  pub ascending : IsAscending xs
  pub few : length xs ≤ SET_MAX
  pub each : (z : Value) → IsMember z xs → IsOfType e t z

pub members_of : (e : Environment) (t : Ty) (v : Value) → IsOfType e (power t) v → AreMembers e t (members v)
members_of e t v h = subst (AreMembers e t) (sym (ap members h.1 ∙ members-SetOf h.0)) (record { ascending = h.2; few = h.3; each = λ z m. every_at (λ x. IsOfType e t x) h.0 z h.4 m })

pub a_set : (e : Environment) (t : Ty) (P : Value → Type 0) (v : Value) → IsSetOf P (Is v) → ((z : Value) → P z → IsOfType e t z) → IsOfType e (power t) v
a_set e t P v h f = (h.0, h.1, h.2, h.3, every_from (λ z. IsOfType e t z) h.0 (λ z m. f z ((h.4 z).0 m)))

pub a_number : (e : Environment) (n : ℤ) (v : Value) → IsNumber n (Is v) → IsOfType e int v
a_number e n v h = (n, h.0, h.1)

pub a_pair : (e : Environment) (t u : Ty) (x y : Value) → IsOfType e t x → IsOfType e u y → IsOfType e (pair_type t u) (op.pair x y)
a_pair e t u x y h k = (x ∷ y ∷ [], refl, (x, y ∷ [], refl, h, (y, [], refl, k, refl)))

-- ---- tuples

same_parts : (xs ys : List Value) → Tuple xs ≡ Tuple ys → xs ≡ ys
same_parts xs ys e = sym (parts-Tuple xs) ∙ ap parts e ∙ parts-Tuple ys

pub parts_of : (e : Environment) (ts : Tys) (vs : List Value) → IsOfType e (product ts) (Tuple vs) → AreOfTypes e ts vs
parts_of e ts vs h = subst (AreOfTypes e ts) (same_parts h.0 vs (sym h.1)) h.2

heads : (v : Value) (vs : List Value) (w : Value) (ws : List Value) → v ∷ vs ≡ w ∷ ws → (w ≡ v) × (ws ≡ vs)
heads v vs w ws h = (cc, cc)

pub first_of_types : (e : Environment) (t : Ty) (ts : Tys) (v : Value) (vs : List Value) → AreOfTypes e (type t ts) (v ∷ vs) → IsOfType e t v × AreOfTypes e ts vs
first_of_types e t ts v vs h = let same = heads v vs h.0 h.1 h.2 in (subst (IsOfType e t) same.0 h.3, subst (AreOfTypes e ts) same.1 h.4)

pub parts_of_pair : (e : Environment) (t u : Ty) (x y : Value) → IsOfType e (pair_type t u) (op.pair x y) → IsOfType e t x × IsOfType e u y
parts_of_pair e t u x y h =
    let all = first_of_types e t (type u no_types) x (y ∷ []) (parts_of e (type t (type u no_types)) (x ∷ y ∷ []) h) in
    (all.0, (first_of_types e u no_types y [] all.1).0)

-- ---- relations

pub related : (e : Environment) (t u : Ty) (r : List Value) (x y : Value) → AreMembers e (pair_type t u) r → Relates r x y → IsOfType e t x × IsOfType e u y
related e t u r x y h m = parts_of_pair e t u x y (h.each (op.pair x y) m)
