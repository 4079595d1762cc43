-- Conjunction and disjunction by name, and where components of the second schema stand.
use Rattle.zf_checker.proofs.Prelude.{if◌then◌else◌, ◌∙◌, ◌∷◌, ◌≡◌, [], ap, Bool, false, List, map, None, Option, refl, slice_get, Some, subst, suc, sym, true, zero, ℕ, none-some, same_Some, slice_get-map, option_map, bytes_eq, Comp, sets_of, sides, later, Ty, Agree, Agrees, AreOnce, comp, comp_named, either_comps, HasTypeOf, new_place, place_of, place_or, sets_on, with_comps, PlacesCarried, sets_found, SetsJoined, SetsOfEither, StandsAt, type_found, type_named, TypesJoined, TypesOfEither, option_or, found, stands_there, joined_type, joined_sets, type_of_once}

pub types_joined : TypesJoined
types_joined a b x = joined_type x a.comps b.comps

pub sets_joined : SetsJoined
sets_joined a b x once = joined_sets x a.comps b.comps once

agrees_at : (cs ds : List Comp) (i : ℕ) (c : Comp) → Agree cs ds → slice_get ds i ≡ Some c → Agrees cs c
agrees_at cs [] i c agreed e = absurd (none-some c e)
agrees_at cs (d ∷ ds) zero c agreed e = subst (Agrees cs) (same_Some d c e) agreed.0
agrees_at cs (d ∷ ds) (suc i) c agreed e = agrees_at cs ds i c agreed.1 e

type_agreed : (o : Option (ℕ × Comp)) (c : Comp) → HasTypeOf o c → option_or (type_found o) (Some c.type) ≡ Some c.type
type_agreed None c agreed = refl
type_agreed (Some p) c agreed = ap Some agreed

-- where components are changed, but neither in name nor in type
changed_stands : (f : Comp → Comp) (cs : List Comp) (i : ℕ) (c : Comp) → ((d : Comp) → (f d).name ≡ d.name) → ((d : Comp) → (f d).type ≡ d.type) → StandsAt cs i c → StandsAt (map f cs) i c
changed_stands f cs i c names types at = (f at.0, slice_get-map f cs i ∙ ap (option_map f) at.1, names at.0 ∙ at.2, types at.0 ∙ at.3)

pub carried_place : (cs ds : List Comp) (i : ℕ) (c : Comp) → AreOnce ds → Agree cs ds → slice_get ds i ≡ Some c → StandsAt (with_comps cs ds) (new_place ds (with_comps cs ds) i) c
carried_place cs ds i c once agreed at =
    let all = with_comps cs ds in
    let named = joined_type c.name cs ds ∙ ap (option_or (type_named c.name cs)) (type_of_once ds i c once at) in
    let type = named ∙ type_agreed (comp_named c.name cs) c (agrees_at cs ds i c agreed at) in
    let there = found (comp_named c.name all) c.type type in
    let stands = stands_there c.name all there.0 there.1 in
    let place = ap (λ o. place_of o all i) at ∙ ap (λ o. place_or o i) there.1 in
    subst (λ n. StandsAt all n c) (sym place) (there.0.1, stands.0, stands.1, there.2)

pub places_carried : PlacesCarried
places_carried l a b i c once agreed at =
    let stands = carried_place a.comps b.comps i c once agreed at in
    (stands, changed_stands _ (with_comps a.comps b.comps) (new_place b.comps (with_comps a.comps b.comps) i) c (λ d. refl) (λ d. refl) stands)

-- ---- disjunction

abbrev mapped : (Comp → Comp) → Option (ℕ × Comp) → Option (ℕ × Comp)
mapped f None = None
mapped f (Some p) = Some (p.0, f p.1)

mapped_named : (f : Comp → Comp) (x : List ℕ) (cs : List Comp) → ((c : Comp) → (f c).name ≡ c.name) → comp_named x (map f cs) ≡ mapped f (comp_named x cs)
mapped_named f x [] names = refl
mapped_named f x (c ∷ cs) names =
    ap (λ n. if bytes_eq n x then Some (0, f c) else later (comp_named x (map f cs))) (names c) ∙ by (bytes_eq c.name x) (comp_named x cs) (mapped_named f x cs names)
  where
    by : (t : Bool) (o : Option (ℕ × Comp)) → comp_named x (map f cs) ≡ mapped f o → (if t then Some (0, f c) else later (comp_named x (map f cs))) ≡ mapped f (if t then Some (0, c) else later o)
    by true o rest = refl
    by false None rest = ap later rest
    by false (Some p) rest = ap later rest

mapped_type : (f : Comp → Comp) (o : Option (ℕ × Comp)) → ((c : Comp) → (f c).type ≡ c.type) → type_found (mapped f o) ≡ type_found o
mapped_type f None types = refl
mapped_type f (Some p) types = ap Some (types p.1)

abbrev on_both : List Comp → List Comp → Comp → Comp
on_both cs ds c = comp c.name c.type (sides (sets_of (sets_on (comp_named c.name cs) c.type)) (sets_of (sets_on (comp_named c.name ds) c.type)) ∷ [])

either_type : (cs ds : List Comp) (x : List ℕ) → type_named x (either_comps cs ds) ≡ type_named x (with_comps cs ds)
either_type cs ds x =
    ap type_found (mapped_named (on_both cs ds) x (with_comps cs ds) (λ c. refl)) ∙ mapped_type (on_both cs ds) (comp_named x (with_comps cs ds)) (λ c. refl)

pub types_of_either : TypesOfEither
types_of_either l a b x = either_type a.comps b.comps x ∙ joined_type x a.comps b.comps

pub sets_of_either : SetsOfEither
sets_of_either l a b x t type =
    let all = with_comps a.comps b.comps in
    let there = found (comp_named x all) t (sym (either_type a.comps b.comps x) ∙ type) in
    let name = (stands_there x all there.0 there.1).1 in
    let one = λ (n : List ℕ) (u : Ty). sides (sets_of (sets_on (comp_named n a.comps) u)) (sets_of (sets_on (comp_named n b.comps) u)) ∷ [] in
    ap sets_found (mapped_named (on_both a.comps b.comps) x all (λ c. refl)) ∙ ap (λ o. sets_found (mapped (on_both a.comps b.comps) o)) there.1
    ∙ ap (λ n. one n there.0.1.type) name ∙ ap (one x) there.2
