-- The components of disjunctions, and the places of a side's components.
use Rattle.zf_calculus.proofs.Prelude.{if◌then◌else◌, ◌++◌, ◌+◌, ◌<◌, ◌∙◌, ◌∷◌, ◌≡◌, ◌≤◌, [], add-one, all_of, ap, arith, batch_of, bytes_eq, Batch, Bool, carried, Conjunct, conjunct_of, Comp, comp, comp_named, comp_of, Component, DeclaredSet, disjoined, disjoined_over, Domain, either_comp, false, Flat, get_or, inr, IsNext, IsTooLarge, IsWithin, later, length, length-append, length-map, List, map, map-append, moved, new_place, None, none-some, numbering, Offence, of-Either, one_holds, Option, place_found, place_in, place_named, place_of, place_or, refl, ResolvedTree, same_Some, Schema, schema_of, set_of, sets_of, sets_on, sides, slice_get, Some, Stops, subst, suc, sym, take, too_large, true, type_of, unmoved, with_comp, with_comps, zero, ZType, ℕ, fun_ext, constraints, either_comps, Span}
use Rattle.std.proofs.Math.Seq.{map-set_same}
use Rattle.zf_term.specs.declared.schema.Domain.TheVariants as v
use Rattle.zf_term.specs.declared.fault.Limit.TheVariants as limit
use Rattle.zf_calculus.proofs.Merging.{known_in_place, known_is, new_last, none_shorter}
use Rattle.zf_calculus.proofs.Placing.{TooMany}
use Rattle.zf_calculus.proofs.Renumbering.{all_same}

pub either_seen : (c : Component) (cs ds : List Comp) (name : List ℕ) (t : ZType) (domains left right : List Domain) → name ≡ c.name → t ≡ c.ztype
    → map set_of left ≡ sets_on (comp_named c.name cs) (type_of c.ztype) → map set_of right ≡ sets_on (comp_named c.name ds) (type_of c.ztype)
    → domains ≡ v.Either left right ∷ [] → comp_of (record { name = name; ztype = t; domains = domains }) ≡ either_comp cs ds (comp_of c)
either_seen c cs ds name t domains left right e f l r h =
    ap (λ (n : List ℕ). comp n (type_of t) (map set_of domains)) e
    ∙ ap (λ (u : ZType). comp c.name (type_of u) (map set_of domains)) f
    ∙ ap (λ (es : List Domain). comp c.name (type_of c.ztype) (map set_of es)) h
    ∙ ap (λ (d : DeclaredSet). comp c.name (type_of c.ztype) (d ∷ [])) (of-Either left right)
    ∙ ap (λ (xs : List DeclaredSet). comp c.name (type_of c.ztype) (sides (sets_of xs) (sets_of (map set_of right)) ∷ [])) l
    ∙ ap (λ (xs : List DeclaredSet). comp c.name (type_of c.ztype) (sides (sets_of (sets_on (comp_named c.name cs) (type_of c.ztype))) (sets_of xs) ∷ [])) r

-- ---- one more component, of which a disjunction keeps the name and the type alone

either_kept : (cs ds xs : List Comp) (c d : Comp) (i : ℕ) → comp_named c.name xs ≡ Some (i, d) → map (either_comp cs ds) (with_comp xs c) ≡ map (either_comp cs ds) xs
either_kept cs ds xs c d i h =
    let y = comp d.name d.type (d.sets ++ c.sets) in
    ap (map (either_comp cs ds)) (known_in_place xs c d i h)
    ∙ map-set_same (either_comp cs ds) xs i y d (ap (either_comp cs ds) (sym (known_is c.name xs d i h).1))

later_found : (o q : Option (ℕ × Comp)) → place_found o ≡ place_found q → place_found (later o) ≡ place_found (later q)
later_found None None e = refl
later_found None (Some r) e = absurd (none-some r.0 e)
later_found (Some p) None e = absurd (none-some p.0 (sym e))
later_found (Some p) (Some r) e = ap (λ n. Some (n + 1)) (same_Some p.0 r.0 e)

pub place_kept : (cs ds xs : List Comp) (x : List ℕ) → place_named x (map (either_comp cs ds) xs) ≡ place_named x xs
place_kept cs ds [] x = refl
place_kept cs ds (d ∷ es) x = by (bytes_eq d.name x) (place_kept cs ds es x)
  where
    by : (b : Bool) → place_named x (map (either_comp cs ds) es) ≡ place_named x es
        → place_found (if b then Some (0, either_comp cs ds d) else later (comp_named x (map (either_comp cs ds) es)))
        ≡ place_found (if b then Some (0, d) else later (comp_named x es))
    by true rest = refl
    by false rest = later_found (comp_named x (map (either_comp cs ds) es)) (comp_named x es) rest

pub found_before : (o : Option (ℕ × Comp)) (i : ℕ) → place_found o ≡ Some i → (d : Comp) × (o ≡ Some (i, d))
found_before None i h = absurd (none-some i h)
found_before (Some p) i h = (p.1, ap (λ n. Some (n, p.1)) (sym (same_Some i p.0 (sym h))))

none_before : (o : Option (ℕ × Comp)) → place_found o ≡ None → o ≡ None
none_before None h = refl
none_before (Some p) h = absurd (none-some p.0 (sym h))

place_among : (cs ds xs : List Comp) (x : List ℕ) (c : Component) (slice made : List Component) → x ≡ c.name → slice ≡ made
    → map comp_of made ≡ map (either_comp cs ds) xs → place_named x (map comp_of slice) ≡ place_named c.name xs
place_among cs ds xs x c slice made e f is =
    ap (λ (y : List ℕ). place_named y (map comp_of slice)) e
    ∙ ap (λ (es : List Component). place_named c.name (map comp_of es)) f
    ∙ ap (place_named c.name) is
    ∙ place_kept cs ds xs c.name

pub more_known :
    (cs ds : List Comp) (x : List ℕ) (c : Component) (slice made : List Component) (i : ℕ) → x ≡ c.name → slice ≡ made → (d : Comp) × (comp_named x (map comp_of slice) ≡ Some (i, d))
    → (xs : List Comp) → map comp_of made ≡ map (either_comp cs ds) xs → map comp_of made ≡ map (either_comp cs ds) (with_comp xs (comp_of c))
more_known cs ds x c slice made i e f h xs is =
    let there = found_before (comp_named c.name xs) i (sym (place_among cs ds xs x c slice made e f is) ∙ ap place_found h.1) in
    is ∙ sym (either_kept cs ds xs (comp_of c) there.0 i there.1)

unknown : (cs ds : List Comp) (x : List ℕ) (c : Component) (slice made : List Component) → x ≡ c.name → slice ≡ made → comp_named x (map comp_of slice) ≡ None
    → (xs : List Comp) → map comp_of made ≡ map (either_comp cs ds) xs → with_comp xs (comp_of c) ≡ xs ++ comp_of c ∷ []
unknown cs ds x c slice made e f h xs is = new_last xs (comp_of c) (none_before (comp_named c.name xs) (sym (place_among cs ds xs x c slice made e f is) ∙ ap place_found h))

pub more_new :
    (cs ds : List Comp) (x : List ℕ) (c new : Component) (slice made more : List Component) → x ≡ c.name → slice ≡ made → comp_named x (map comp_of slice) ≡ None
    → comp_of new ≡ either_comp cs ds (comp_of c) → more ≡ made ++ new ∷ []
    → (xs : List Comp) → map comp_of made ≡ map (either_comp cs ds) xs → map comp_of more ≡ map (either_comp cs ds) (with_comp xs (comp_of c))
more_new cs ds x c new slice made more e f h one push xs is =
    ap (map comp_of) push
    ∙ map-append comp_of made (new ∷ [])
    ∙ ap (λ (es : List Comp). es ++ comp_of new ∷ []) is
    ∙ ap (λ (d : Comp). map (either_comp cs ds) xs ++ d ∷ []) one
    ∙ sym (map-append (either_comp cs ds) xs (comp_of c ∷ []))
    ∙ ap (map (either_comp cs ds)) (sym (unknown cs ds x c slice made e f h xs is))

pub more_than_few :
    (cs ds : List Comp) (x : List ℕ) (c : Component) (slice made : List Component) → x ≡ c.name → slice ≡ made → comp_named x (map comp_of slice) ≡ None → 64 ≤ length made
    → (xs : List Comp) → map comp_of made ≡ map (either_comp cs ds) xs → length (with_comp xs (comp_of c)) ≤ 64 → ⊥
more_than_few cs ds x c slice made e f h many xs is few =
    omega (arith, many, few, ap length (unknown cs ds x c slice made e f h xs is), length-append xs (comp_of c ∷ []), ap length is, length-map made comp_of, length-map xs (either_comp cs ds))

-- ---- all components

further : (cs : List Comp) (xs : List Component) (i : ℕ) (x : Component) → x ≡ get_or xs i x → i < length xs
    → with_comps cs (map comp_of (take (suc i) xs)) ≡ with_comp (with_comps cs (map comp_of (take i xs))) (comp_of x)
further cs [] i x at l = absurd (omega arith)
further cs (y ∷ ys) zero x at l = ap (λ z. with_comp cs (comp_of z)) (sym at)
further cs (y ∷ ys) (suc i) x at l = further (with_comp cs (comp_of y)) ys i x at (omega arith)

pub one_further : (cs : List Comp) (xs : List Component) (i : ℕ) (x : Component) → x ≡ get_or xs i x → i < length xs
    → with_comps cs (map comp_of (take (i + 1) xs)) ≡ with_comp (with_comps cs (map comp_of (take i xs))) (comp_of x)
one_further cs xs i x at l = rw add-one (further cs xs i x at l)

no_more : (cs : List Comp) (xs : List Component) (i : ℕ) (x : Component) → x ≡ get_or xs i x → i < length xs
    → length (with_comp (with_comps cs (map comp_of (take i xs))) (comp_of x)) ≤ length (with_comps cs (map comp_of xs))
no_more cs [] i x at l = absurd (omega arith)
no_more cs (y ∷ ys) zero x at l = omega (arith, none_shorter (with_comp cs (comp_of y)) (map comp_of ys), ap (λ z. length (with_comp cs (comp_of z))) at)
no_more cs (y ∷ ys) (suc i) x at l = no_more (with_comp cs (comp_of y)) ys i x at (omega arith)

-- one that is too many among the first is too many among all
pub stops_among :
    (cs ds : List Comp) (xs : List Component) (i : ℕ) (x : Component) (made : List Comp) → x ≡ get_or xs i x → i < length xs
    → made ≡ map (either_comp cs ds) (with_comps cs (map comp_of (take i xs)))
    → (k : Offence) → (k ≡ too_large limit.Components) × ((es : List Comp) → made ≡ map (either_comp cs ds) es → length (with_comp es (comp_of x)) ≤ 64 → ⊥)
    → TooMany (with_comps cs (map comp_of xs)) k
stops_among cs ds xs i x made at l is k h = (h.0, λ few. h.1 (with_comps cs (map comp_of (take i xs))) is (omega (arith, few, no_more cs xs i x at l)))

-- ---- places

or_kept : (o q : Option (ℕ × Comp)) (i : ℕ) → place_found o ≡ place_found q → place_or o i ≡ place_or q i
or_kept None None i e = refl
or_kept None (Some r) i e = absurd (none-some r.0 e)
or_kept (Some p) None i e = absurd (none-some p.0 (sym e))
or_kept (Some p) (Some r) i e = same_Some p.0 r.0 e

of_kept : (cs ds xs : List Comp) (o : Option Comp) (i : ℕ) → place_of o (map (either_comp cs ds) xs) i ≡ place_of o xs i
of_kept cs ds xs None i = refl
of_kept cs ds xs (Some c) i = or_kept (comp_named c.name (map (either_comp cs ds) xs)) (comp_named c.name xs) i (place_kept cs ds xs c.name)

carried_kept : (cs ds xs es : List Comp) (ts : List ResolvedTree) → carried es (map (either_comp cs ds) xs) ts ≡ carried es xs ts
carried_kept cs ds xs es ts = ap (λ (f : ℕ → ℕ). map (moved f) ts) (fun_ext (λ i. of_kept cs ds xs (slice_get es i) i))

pub all_alike : (f g : ResolvedTree → ResolvedTree) (ts : List ResolvedTree) → ((t : ResolvedTree) → f t ≡ g t) → map f ts ≡ map g ts
all_alike f g [] same = refl
all_alike f g (t ∷ ts) same = let here = same t in let rest = all_alike f g ts same in (cc)

-- each component has its own place
pub own_places : (f : ℕ → ℕ) (ps qs : List ℕ) → qs ≡ ps → place_in ps ≡ f → ((t : ResolvedTree) → moved (place_in qs) t ≡ t) → (t : ResolvedTree) → moved (numbering None) t ≡ moved f t
own_places f ps qs e places own t = unmoved t ∙ sym (own t) ∙ ap (λ (rs : List ℕ). moved (place_in rs) t) e ∙ ap (λ (g : ℕ → ℕ). moved g t) places

pub further_places : (f : ℕ → ℕ) (ps qs : List ℕ) → qs ≡ ps → place_in ps ≡ f → (t : ResolvedTree) → moved (numbering (Some qs)) t ≡ moved f t
further_places f ps qs e places t = ap (λ (rs : List ℕ). moved (place_in rs) t) e ∙ ap (λ (g : ℕ → ℕ). moved g t) places

-- ---- the whole

-- the one conjunct, that one side holds or the other
pub sides_seen :
    (l : Span) (all : List Comp) (a b : Schema) (c : Conjunct) (conjuncts : List Conjunct) (left right : List Batch) (ps : Option (List ℕ)) → conjuncts ≡ c ∷ []
    → conjunct_of c ≡ one_holds l (all_of (map batch_of left)) (all_of (map batch_of right))
    → all_of (map batch_of left) ≡ map (moved (numbering None)) (constraints a)
    → all_of (map batch_of right) ≡ map (moved (numbering ps)) (constraints b)
    → ((t : ResolvedTree) → moved (numbering ps) t ≡ moved (new_place b.comps all) t)
    → map conjunct_of conjuncts ≡ one_holds l (constraints a) (carried b.comps all (constraints b)) ∷ []
sides_seen l all a b c conjuncts left right ps made is first second places =
    ap (map conjunct_of) made
    ∙ ap (λ (t : ResolvedTree). t ∷ []) is
    ∙ ap (λ (ts : List ResolvedTree). one_holds l ts (all_of (map batch_of right)) ∷ []) (first ∙ all_same (moved (numbering None)) (constraints a) unmoved)
    ∙ ap (λ (ts : List ResolvedTree). one_holds l (constraints a) ts ∷ []) (second ∙ all_alike (moved (numbering ps)) (moved (new_place b.comps all)) (constraints b) places)

pub disjunction_made : (l : Span) (left right flat : Flat) (all given cs ds : List Component)
    → schema_of flat ≡ disjoined_over (map comp_of given) l (schema_of left) (schema_of right) → given ≡ all
    → map comp_of all ≡ either_comps (map comp_of cs) (map comp_of ds) → cs ≡ left.components → ds ≡ right.components
    → schema_of flat ≡ disjoined l (schema_of left) (schema_of right)
disjunction_made l left right flat all given cs ds made g whole e f =
    let a = schema_of left in
    let b = schema_of right in
    let joined : map comp_of given ≡ either_comps a.comps b.comps =
    ap (map comp_of) g
    ∙ whole
    ∙ ap (λ (xs : List Component). either_comps (map comp_of xs) (map comp_of ds)) e
    ∙ ap (λ (xs : List Component). either_comps (map comp_of left.components) (map comp_of xs)) f
    in
    made
    ∙ ap (λ (xs : List Comp). disjoined_over xs l a b) joined
    ∙ ap (λ (ts : List ResolvedTree). record { comps = either_comps a.comps b.comps; conjuncts = one_holds l (constraints a) ts ∷ [] })
    (carried_kept a.comps b.comps (with_comps a.comps b.comps) b.comps (constraints b))

pub stops_disjoining : (clashes : Offence → Type 0) (agree : Type 0) (a b : Schema) → a ≡ b → agree → (k : Offence) → IsTooLarge a k → Stops clashes agree b k
stops_disjoining clashes agree a b e ok k h = inr (ok, subst (λ (s : Schema). IsTooLarge s k) e h)

pub next_disjoined : (a b c : Schema) → a ≡ b → IsNext a c → IsNext b c
next_disjoined a b c e n = (n.0 ∙ e, subst IsWithin e n.1)
