-- Where the components of a name are, and that they stay there.
use Rattle.zf_calculus.proofs.Prelude.{if◌then◌else◌, ◌++◌, ◌+◌, ◌<◌, ◌∙◌, ◌∷◌, ◌≡◌, [], add-one, ap, arith, Bool, false, get_or, length, List, map, None, Option, refl, slice_get, Some, subst, suc, sym, true, zero, ℕ, append-nil, append_assoc, length-map, none-some, same_Some, slice_get_past, bytes_eq, place_in, in_full, is_itself, Comp, comp_of, later, Offence, too_large, Component, comp, comp_named, new_place, place_of, place_or, with_comp, with_comps, AreAt, place_found, place_named, AreFew}
use Rattle.zf_term.specs.declared.fault.Limit.TheVariants as limit
use Rattle.zf_calculus.proofs.Merging.{none_shorter, nothing_before}

-- ---- one more component

one_on : (o : Option (ℕ × Comp)) (i : ℕ) → place_found o ≡ Some i → place_found (later o) ≡ Some (suc i)
one_on None i h = absurd (none-some i h)
one_on (Some p) i h = ap (λ n. Some (n + 1)) (same_Some p.0 i h) ∙ ap Some (add-one i)

both_on : (o q : Option (ℕ × Comp)) (i : ℕ) → ((j : ℕ) → place_found o ≡ Some j → place_found q ≡ Some j) → place_found (later o) ≡ Some i → place_found (later q) ≡ Some i
both_on None q i rest h = absurd (none-some i h)
both_on (Some p) None i rest h = absurd (none-some p.0 (rest p.0 refl))
both_on (Some p) (Some r) i rest h = ap (λ n. Some (n + 1)) (same_Some r.0 p.0 (rest p.0 refl)) ∙ h

stays : (x : List ℕ) (cs : List Comp) (c : Comp) (i : ℕ) → place_named x cs ≡ Some i → place_named x (with_comp cs c) ≡ Some i
stays x [] c i h = absurd (none-some i h)
stays x (d ∷ ds) c i h = by (bytes_eq d.name c.name) (stays x ds c)
  where
    known : (t : Bool) → place_found (if t then Some (0, d) else later (comp_named x ds)) ≡ Some i
        → place_found (if t then Some (0, comp d.name d.type (d.sets ++ c.sets)) else later (comp_named x ds)) ≡ Some i
    known true g = g
    known false g = g

    passed : (t : Bool) → ((j : ℕ) → place_named x ds ≡ Some j → place_named x (with_comp ds c) ≡ Some j)
        → place_found (if t then Some (0, d) else later (comp_named x ds)) ≡ Some i
        → place_found (if t then Some (0, d) else later (comp_named x (with_comp ds c))) ≡ Some i
    passed true rest g = g
    passed false rest g = both_on (comp_named x ds) (comp_named x (with_comp ds c)) i rest g

    by : (s : Bool) → ((j : ℕ) → place_named x ds ≡ Some j → place_named x (with_comp ds c) ≡ Some j)
        → place_named x (if s then comp d.name d.type (d.sets ++ c.sets) ∷ ds else d ∷ with_comp ds c) ≡ Some i
    by true rest = known (bytes_eq d.name x) h
    by false rest = passed (bytes_eq d.name x) rest h

stays_through : (x : List ℕ) (cs ds : List Comp) (i : ℕ) → place_named x cs ≡ Some i → place_named x (with_comps cs ds) ≡ Some i
stays_through x cs [] i h = h
stays_through x cs (d ∷ ds) i h = stays_through x (with_comp cs d) ds i (stays x cs d i h)

new_place_last : (cs : List Comp) (c : Comp) → comp_named c.name cs ≡ None → place_named c.name (with_comp cs c) ≡ Some (length cs)
new_place_last [] c h = by (bytes_eq c.name c.name) (is_itself c.name)
  where
    by : (t : Bool) → t ≡ true → place_found (if t then Some (0, c) else None) ≡ Some 0
    by true e = refl
    by false e = absurd (cc)
new_place_last (d ∷ ds) c h =
    let u = nothing_before (bytes_eq d.name c.name) (0, d) (comp_named c.name ds) h in
    by (bytes_eq d.name c.name) u.0 (front (bytes_eq d.name c.name) u.0 (one_on (comp_named c.name (with_comp ds c)) (length ds) (new_place_last ds c u.1)))
  where
    front : (t : Bool) → t ≡ false → place_found (later (comp_named c.name (with_comp ds c))) ≡ Some (suc (length ds))
        → place_found (if t then Some (0, d) else later (comp_named c.name (with_comp ds c))) ≡ Some (suc (length ds))
    front true e rest = absurd (cc)
    front false e rest = rest

    by : (t : Bool) → t ≡ false → place_named c.name (d ∷ with_comp ds c) ≡ Some (suc (length ds))
        → place_named c.name (if t then comp d.name d.type (d.sets ++ c.sets) ∷ ds else d ∷ with_comp ds c) ≡ Some (suc (length ds))
    by true e rest = absurd (cc)
    by false e rest = rest

pub placed_known : (c : Component) (x : List ℕ) (cs ds : List Component) (i : ℕ) → x ≡ c.name → cs ≡ ds → (d : Comp)
    × (comp_named x (map comp_of cs) ≡ Some (i, d)) → place_named c.name (with_comp (map comp_of ds) (comp_of c)) ≡ Some i
placed_known c x cs ds i e f h =
    let found : place_named c.name (map comp_of ds) ≡ Some i =
    ap (λ (y : List ℕ). place_named y (map comp_of ds)) (sym e) ∙ ap (λ (es : List Component). place_named x (map comp_of es)) (sym f) ∙ ap place_found h.1 in
    stays c.name (map comp_of ds) (comp_of c) i found

pub placed_new : (c : Component) (x : List ℕ) (cs ds : List Component) (n : ℕ) → x ≡ c.name → cs ≡ ds → comp_named x (map comp_of cs) ≡ None → n ≡ length ds
    → place_named c.name (with_comp (map comp_of ds) (comp_of c)) ≡ Some n
placed_new c x cs ds n e f h l =
    let none : comp_named c.name (map comp_of ds) ≡ None =
    ap (λ (y : List ℕ). comp_named y (map comp_of ds)) (sym e) ∙ ap (λ (es : List Component). comp_named x (map comp_of es)) (sym f) ∙ h in
    new_place_last (map comp_of ds) (comp_of c) none ∙ ap Some (length-map ds comp_of ∙ sym l)

-- ---- all components

pub as_many : (all : List Comp) (ps : List ℕ) (cs : List Comp) → AreAt all ps cs → length ps ≡ length cs
as_many all [] [] h = refl
as_many all [] (c ∷ cs) h = absurd h
as_many all (p ∷ ps) [] h = absurd h
as_many all (p ∷ ps) (c ∷ cs) h = ap suc (as_many all ps cs h.1)

pub same_places : (all : List Comp) (ps qs : List ℕ) (cs : List Comp) → qs ≡ ps → AreAt all ps cs → AreAt all qs cs
same_places all ps qs cs e h = subst (λ (rs : List ℕ). AreAt all rs cs) (sym e) h

or_found : (o : Option (ℕ × Comp)) (i p : ℕ) → place_found o ≡ Some p → p ≡ place_or o i
or_found None i p h = absurd (none-some p h)
or_found (Some q) i p h = sym (same_Some q.0 p h)

each_at : (all : List Comp) (ps : List ℕ) (cs : List Comp) (k i : ℕ) → AreAt all ps cs → k < length ps → get_or ps k i ≡ place_of (slice_get cs k) all i
each_at all [] cs k i h l = absurd (omega arith)
each_at all (p ∷ ps) [] k i h l = absurd h
each_at all (p ∷ ps) (c ∷ cs) zero i h l = or_found (comp_named c.name all) i p h.0
each_at all (p ∷ ps) (c ∷ cs) (suc k) i h l = each_at all ps cs k i h.1 (omega arith)

pub are_new_places : (all : List Comp) (ps : List ℕ) (cs : List Comp) → AreAt all ps cs → place_in ps ≡ new_place cs all
are_new_places all ps cs h =
    in_full ps (new_place cs all) (λ k past. ap (λ o. place_of o all k) (slice_get_past cs k (omega (arith, as_many all ps cs h)))) (λ k l. each_at all ps cs k k h l)

-- the places of the components before those ahead are known
abbrev pub ArePlaced : (all : List Comp) (places : List ℕ) (ahead first : List Component) → Type 0
ArePlaced all places ahead first = (ps : List ℕ) → AreAt all ps (map comp_of ahead) → AreAt all (places ++ ps) (map comp_of first)

-- one component further
pub still_whole : (cs ds all : List Comp) (c : Component) (ahead rest : List Component) → ahead ≡ c ∷ rest → ds ≡ with_comp cs (comp_of c)
    → with_comps cs (map comp_of ahead) ≡ all → with_comps ds (map comp_of rest) ≡ all
still_whole cs ds all c ahead rest step joined whole =
    ap (λ (es : List Comp). with_comps es (map comp_of rest)) joined ∙ ap (λ (ys : List Component). with_comps cs (map comp_of ys)) (sym step) ∙ whole

pub still_placed :
    (cs all : List Comp) (c : Component) (ahead rest first : List Component) (n : ℕ) (places more : List ℕ) → ahead ≡ c ∷ rest
    → place_named c.name (with_comp cs (comp_of c)) ≡ Some n
    → more ≡ places ++ n ∷ []
    → with_comps cs (map comp_of ahead) ≡ all
    → ArePlaced all places ahead first → ArePlaced all more rest first
still_placed cs all c ahead rest first n places more step at push whole before ps behind =
    let made = sym (ap (λ (ys : List Component). with_comps cs (map comp_of ys)) (sym step) ∙ whole) in
    let there : place_named c.name all ≡ Some n = ap (place_named c.name) made ∙ stays_through c.name (with_comp cs (comp_of c)) (map comp_of rest) n at in
    let one : AreAt all (n ∷ ps) (map comp_of ahead) = subst (λ (ys : List Component). AreAt all (n ∷ ps) (map comp_of ys)) (sym step) (there, behind) in
    subst (λ (qs : List ℕ). AreAt all qs (map comp_of first)) (sym (append_assoc places (n ∷ []) ps) ∙ ap (λ (qs : List ℕ). qs ++ ps) (sym push)) (before (n ∷ ps) one)

-- no component is ahead
pub all_placed : (all : List Comp) (places : List ℕ) (ahead first : List Component) → ahead ≡ [] → ArePlaced all places ahead first → AreAt all places (map comp_of first)
all_placed all places ahead first none before =
    subst (λ (qs : List ℕ). AreAt all qs (map comp_of first)) (append-nil places) (before [] (subst (λ (ys : List Component). AreAt all [] (map comp_of ys)) (sym none) tt))

-- more components than a schema can have
abbrev pub TooMany : List Comp → Offence → Type 0
TooMany cs k = (k ≡ too_large limit.Components) × (AreFew cs → ⊥)

pub stops_joining : (cs all : List Comp) (c : Component) (ahead rest : List Component) → ahead ≡ c ∷ rest → with_comps cs (map comp_of ahead) ≡ all
    → (k : Offence) → TooMany (with_comp cs (comp_of c)) k → TooMany all k
stops_joining cs all c ahead rest step whole k h =
    let less = none_shorter (with_comp cs (comp_of c)) (map comp_of rest) in
    let same = ap length (ap (λ (ys : List Component). with_comps cs (map comp_of ys)) (sym step) ∙ whole) in
    (h.0, λ w. h.1 (omega arith))
