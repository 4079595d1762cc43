-- The list of new places says where each component is.
use Rattle.zf_calculus.proofs.Prelude.{◌++◌, ◌<◌, ◌∙◌, ◌∷◌, ◌≡◌, ◌≤◌, [], ap, arith, get_or, length, List, map, refl, Some, sym, ℕ, append_assoc, get_or-map, length-map, map-append, slice_get-get_or, slice_get_past, place_in, AreFirst, in_full, unmoved, comp_of, conjunct_of, ResolvedTree, moved, Component, comp_named, new_place, place_of, place_or, Conjunct}

-- the places of the first components are known
abbrev pub ArePlaces : List ℕ → List Component → List Component → Type 0
ArePlaces places from among = AreFirst places (new_place (map comp_of from) (map comp_of among))

at_place : (from among : List Component) (i : ℕ) (c : Component) → i < length from → c ≡ get_or from i c
    → new_place (map comp_of from) (map comp_of among) i ≡ place_or (comp_named c.name (map comp_of among)) i
at_place from among i c l e =
    ap (λ o. place_of o (map comp_of among) i) (slice_get-get_or (map comp_of from) i (comp_of c) (omega (arith, length-map from comp_of))
    ∙ ap Some (get_or-map comp_of from i c (comp_of c) l ∙ ap comp_of (sym e)))

pub all_places : (places : List ℕ) (from among : List Component) → length places ≡ length from → ArePlaces places from among → place_in places ≡ new_place (map comp_of from) (map comp_of among)
all_places places from among l =
    in_full places (new_place (map comp_of from) (map comp_of among)) (λ k past. ap (λ o. place_of o (map comp_of among) k)
    (slice_get_past (map comp_of from) k (omega (arith, length-map from comp_of))))

-- ---- conjuncts

abbrev pub KeepsAll : List ℕ → ℕ → Type 0
KeepsAll places i = (k : ℕ) → k < i → get_or places k k ≡ k

pub none_moved : (places : List ℕ) (i : ℕ) → length places ≤ i → KeepsAll places i → (t : ResolvedTree) → moved (place_in places) t ≡ t
none_moved places i past all t = ap (λ (f : ℕ → ℕ). moved f t) (in_full places (λ k. k) (λ k far. refl) (λ k l. all k (omega arith))) ∙ unmoved t

pub all_same : (f : ResolvedTree → ResolvedTree) (ts : List ResolvedTree) → ((t : ResolvedTree) → f t ≡ t) → map f ts ≡ ts
all_same f [] same = refl
all_same f (t ∷ ts) same = let here = same t in let rest = all_same f ts same in (cc)

-- further conjuncts that keep their places
pub taken_as_they_are : (f : ℕ → ℕ) (old new further : List Conjunct) → ((t : ResolvedTree) → moved f t ≡ t) → new ≡ old ++ further
    → map conjunct_of new ≡ map conjunct_of old ++ map (moved f) (map conjunct_of further)
taken_as_they_are f old new further same made =
    ap (map conjunct_of) made ∙ map-append conjunct_of old further ∙ ap (λ (ts : List ResolvedTree). map conjunct_of old ++ ts) (sym (all_same (moved f) (map conjunct_of further) same))

-- one conjunct further
pub taken_step :
    (f : ℕ → ℕ) (xs ys ahead rest : List Conjunct) (x : Conjunct) (whole : List ResolvedTree) → ahead ≡ x ∷ rest
    → map conjunct_of ys ≡ map conjunct_of xs ++ moved f (conjunct_of x) ∷ []
    → map conjunct_of xs ++ map (moved f) (map conjunct_of ahead) ≡ whole
    → map conjunct_of ys ++ map (moved f) (map conjunct_of rest) ≡ whole
taken_step f xs ys ahead rest x whole step push before =
    let behind = map (moved f) (map conjunct_of rest) in
    ap (λ (ts : List ResolvedTree). ts ++ behind) push
    ∙ append_assoc (map conjunct_of xs) (moved f (conjunct_of x) ∷ []) behind
    ∙ ap (λ (zs : List Conjunct). map conjunct_of xs ++ map (moved f) (map conjunct_of zs)) (sym step)
    ∙ before
