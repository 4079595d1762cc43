-- One more component: which one changes, and what it adds to what is counted.
use Rattle.zf_calculus.proofs.Prelude.{if◌then◌else◌, ◌++◌, ◌+◌, ◌<◌, ◌∙◌, ◌∷◌, ◌≡◌, ◌≤◌, ◌⊎◌, [], add-one, ap, arith, Bool, false, get_or, inl, inr, length, length-append, List, map, None, Option, refl, same_Some, Some, subst, suc, sym, true, ℕ, length-set, set, get_or-map, get_or_default, length-map, map-append, map-set, sum_by-append, sum_by-cons, sum_by, bytes_eq, Comp, comp_of, DeclaredSet, set_of, later, type_of, Component, comp, comp_named, with_comp, with_comps, counted, enriched}

-- what is found is the first, or it is found after it
front : {A : Type 0} (b : Bool) (a d : A) (i : ℕ) (o : Option (ℕ × A)) → (if b then Some (0, a) else later o) ≡ Some (i, d)
    → ((b ≡ true) × (i ≡ 0) × (a ≡ d)) ⊎ ((b ≡ false) × ((j : ℕ) × (o ≡ Some (j, d)) × (i ≡ suc j)))
front true a d i o h = let e = same_Some _ _ h in inl (refl, sym (ap (λ q. q.0) e), ap (λ q. q.1) e)
front false a d i None h = absurd (cc)
front false a d i (Some r) h =
    let e = same_Some _ _ h in
    inr (refl, (r.0, ap (λ x. Some (r.0, x)) (ap (λ q. q.1) e), sym (ap (λ q. q.0) e) ∙ add-one r.0))

pub nothing_before : {A : Type 0} (b : Bool) (p : ℕ × A) (o : Option (ℕ × A)) → (if b then Some p else later o) ≡ None → (b ≡ false) × (o ≡ None)
nothing_before true p o h = absurd (cc)
nothing_before false p None h = (refl, refl)
nothing_before false p (Some q) h = absurd (cc)

pub none_known : (x : List ℕ) (cs : List Comp) (c : Comp) → comp_named x cs ≡ None → bytes_eq c.name x ≡ false → comp_named x (with_comp cs c) ≡ None
none_known x [] c unknown other = rw (other) refl
none_known x (d ∷ ds) c unknown other =
    let u = nothing_before (bytes_eq d.name x) (0, d) (comp_named x ds) unknown in
    by (bytes_eq d.name c.name) u.0 u.1 (none_known x ds c u.1 other)
  where
    by :
        (t : Bool) → bytes_eq d.name x ≡ false → comp_named x ds ≡ None → comp_named x (with_comp ds c) ≡ None
        → comp_named x (if t then comp d.name d.type (d.sets ++ c.sets) ∷ ds else d ∷ with_comp ds c) ≡ None
    by true first rest made = rw (first, rest) refl
    by false first rest made = rw (first, made) refl

pub new_last : (cs : List Comp) (c : Comp) → comp_named c.name cs ≡ None → with_comp cs c ≡ cs ++ c ∷ []
new_last [] c h = refl
new_last (d ∷ ds) c h =
    let u = nothing_before (bytes_eq d.name c.name) (0, d) (comp_named c.name ds) h in
    rw (u.0) (ap (λ rest. d ∷ rest) (new_last ds c u.1))

-- the component that has the name gains the declared sets
pub known_in_place : (cs : List Comp) (c d : Comp) (i : ℕ) → comp_named c.name cs ≡ Some (i, d) → with_comp cs c ≡ set cs i (comp d.name d.type (d.sets ++ c.sets))
known_in_place [] c d i h = absurd (cc)
known_in_place (e ∷ es) c d i h = elim (front (bytes_eq e.name c.name) e d i (comp_named c.name es) h) [
  | inl u ↦ rw (u.0, u.1) (ap (λ x. comp x.name x.type (x.sets ++ c.sets) ∷ es) u.2)
  | inr u ↦ rw (u.0, u.1.2) (ap (λ rest. e ∷ rest) (known_in_place es c d u.1.0 u.1.1))
]

pub known_is : (x : List ℕ) (cs : List Comp) (d : Comp) (i : ℕ) → comp_named x cs ≡ Some (i, d) → (i < length cs) × (get_or cs i d ≡ d)
known_is x [] d i h = absurd (cc)
known_is x (e ∷ es) d i h = elim (front (bytes_eq e.name x) e d i (comp_named x es) h) [
  | inl u ↦ rw (u.1) (omega arith, u.2)
  | inr u ↦ let rest = known_is x es d u.1.0 u.1.1 in rw (u.1.2) (omega arith, rest.1)
]

pub counts_more : (f : DeclaredSet → ℕ) (cs : List Comp) (c : Comp) → counted f (with_comp cs c) ≡ counted f cs + sum_by f c.sets
counts_more f [] c = refl
counts_more f (d ∷ ds) c = by (bytes_eq d.name c.name) (counts_more f ds c)
  where
    by : (b : Bool) → counted f (with_comp ds c) ≡ counted f ds + sum_by f c.sets
        → counted f (if b then comp d.name d.type (d.sets ++ c.sets) ∷ ds else d ∷ with_comp ds c) ≡ counted f (d ∷ ds) + sum_by f c.sets
    by true e = omega (arith, sum_by-cons (λ e. sum_by f e.sets) (comp d.name d.type (d.sets ++ c.sets)) ds, sum_by-cons (λ e. sum_by f e.sets) d ds, sum_by-append f d.sets c.sets)
    by false e = omega (arith, sum_by-cons (λ e. sum_by f e.sets) d (with_comp ds c), sum_by-cons (λ e. sum_by f e.sets) d ds)

no_shorter : (cs : List Comp) (c : Comp) → length cs ≤ length (with_comp cs c)
no_shorter [] c = omega arith
no_shorter (d ∷ ds) c = by (bytes_eq d.name c.name) (no_shorter ds c)
  where
    by : (b : Bool) → length ds ≤ length (with_comp ds c) → suc (length ds) ≤ length (if b then comp d.name d.type (d.sets ++ c.sets) ∷ ds else d ∷ with_comp ds c)
    by true e = omega arith
    by false e = omega arith

pub none_shorter : (cs ds : List Comp) → length cs ≤ length (with_comps cs ds)
none_shorter cs [] = omega arith
none_shorter cs (d ∷ ds) = omega (arith, no_shorter cs d, none_shorter (with_comp cs d) ds)

-- ---- the program's components

pub named_below : (x : List ℕ) (cs ds : List Component) (i : ℕ) → cs ≡ ds → (d : Comp) × (comp_named x (map comp_of cs) ≡ Some (i, d)) → i < length ds
named_below x cs ds i e h = let k = known_is x (map comp_of cs) h.0 i h.1 in omega (arith, length-map cs comp_of, ap length e)

pub joined_known : (c : Component) (x : List ℕ) (cs ds new : List Component) (i : ℕ) → x ≡ c.name → cs ≡ ds → (d : Comp)
    × (comp_named x (map comp_of cs) ≡ Some (i, d)) → ((b : Component) → get_or ds i b ≡ b → new ≡ set ds i (enriched b c.domains))
    → map comp_of new ≡ with_comp (map comp_of ds) (comp_of c)
joined_known c x cs ds new i e f h g =
    let found : comp_named c.name (map comp_of ds) ≡ Some (i, h.0) = subst (λ (y : List ℕ). comp_named y (map comp_of ds) ≡ Some (i, h.0)) e
    (subst (λ (es : List Component). comp_named x (map comp_of es) ≡ Some (i, h.0)) f h.1) in
    let below = named_below x cs ds i f h in
    let b = get_or ds i c in
    let there : get_or ds i b ≡ b = get_or_default ds i b c below in
    let seen : comp_of b ≡ h.0 = sym (get_or-map comp_of ds i c h.0 below) ∙ (known_is c.name (map comp_of ds) h.0 i found).1 in
    ap (map comp_of) (g b there)
    ∙ map-set comp_of ds i (enriched b c.domains)
    ∙ ap (λ sets. set (map comp_of ds) i (comp b.name (type_of b.ztype) sets)) (map-append set_of b.domains c.domains)
    ∙ ap (λ d. set (map comp_of ds) i (comp d.name d.type (d.sets ++ map set_of c.domains))) seen
    ∙ sym (known_in_place (map comp_of ds) (comp_of c) h.0 i found)

pub joined_new : (c : Component) (x : List ℕ) (cs ds new : List Component) → x ≡ c.name → cs ≡ ds → comp_named x (map comp_of cs) ≡ None → new ≡ ds ++ c ∷ []
    → map comp_of new ≡ with_comp (map comp_of ds) (comp_of c)
joined_new c x cs ds new e f h g =
    let none : comp_named c.name (map comp_of ds) ≡ None = subst (λ (y : List ℕ). comp_named y (map comp_of ds) ≡ None) e (subst (λ (es : List Component). comp_named x (map comp_of es) ≡ None) f h) in
    ap (map comp_of) g ∙ map-append comp_of ds (c ∷ []) ∙ sym (new_last (map comp_of ds) (comp_of c) none)

pub length_known : (c : Component) (x : List ℕ) (cs ds : List Component) (i : ℕ) → x ≡ c.name → cs ≡ ds → (d : Comp)
    × (comp_named x (map comp_of cs) ≡ Some (i, d)) → length (with_comp (map comp_of ds) (comp_of c)) ≡ length (map comp_of ds)
length_known c x cs ds i e f h =
    let found : comp_named c.name (map comp_of ds) ≡ Some (i, h.0) = subst (λ (y : List ℕ). comp_named y (map comp_of ds) ≡ Some (i, h.0)) e
    (subst (λ (es : List Component). comp_named x (map comp_of es) ≡ Some (i, h.0)) f h.1) in
    ap length (known_in_place (map comp_of ds) (comp_of c) h.0 i found) ∙ length-set (map comp_of ds) i (comp h.0.name h.0.type (h.0.sets ++ map set_of c.domains))

pub length_new : (c : Component) (x : List ℕ) (cs ds : List Component) → x ≡ c.name → cs ≡ ds → comp_named x (map comp_of cs) ≡ None → length (with_comp (map comp_of ds) (comp_of c)) ≡ length ds + 1
length_new c x cs ds e f h = ap length (sym (joined_new c x cs ds (ds ++ c ∷ []) e f h refl)) ∙ length-map (ds ++ c ∷ []) comp_of ∙ length-append ds (c ∷ [])
