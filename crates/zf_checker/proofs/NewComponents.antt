-- A conjunction has the components of the first schema, then those of the second that are new.
use Rattle.zf_checker.proofs.Prelude.{if◌then◌else◌, ◌++◌, ◌+◌, ◌∙◌, ◌∷◌, ◌≡◌, [], ap, Bool, false, List, None, Option, refl, Some, sym, true, ℕ, append-nil, append_assoc, none-some, bytes_eq, or_none, swapped, Comp, later, AreOnce, comp, comp_named, with_comp, with_comps, CompsJoined, new_comps, signature, type_found, type_named, unless_found, option_or, type_one_more}
use Rattle.zf_calculus.proofs.Merging.{nothing_before}

-- ---- whether one is found

-- found alike, whatever it is
found_alike : (o p : Option (ℕ × Comp)) (d : Comp) (rest : List Comp) → type_found o ≡ type_found p → unless_found o d rest ≡ unless_found p d rest
found_alike None None d rest e = refl
found_alike None (Some p) d rest e = absurd (none-some p.1.type e)
found_alike (Some o) None d rest e = absurd (none-some o.1.type (sym e))
found_alike (Some o) (Some p) d rest e = refl

found_later : (o : Option (ℕ × Comp)) (d : Comp) (rest : List Comp) → unless_found (later o) d rest ≡ unless_found o d rest
found_later None d rest = refl
found_later (Some o) d rest = refl

-- ---- one more component

-- it makes no component known that has another name
still_new : (cs ds : List Comp) (c : Comp) → comp_named c.name ds ≡ None → new_comps (with_comp cs c) ds ≡ new_comps cs ds
still_new cs [] c none = refl
still_new cs (d ∷ ds) c none =
    let others = nothing_before (bytes_eq d.name c.name) (0, d) (comp_named c.name ds) none in
    let other = swapped c.name d.name ∙ others.0 in
    let known = type_one_more d.name cs c ∙ ap (λ t. option_or (type_named d.name cs) (if t then Some c.type else None)) other ∙ or_none (type_named d.name cs) in
    found_alike (comp_named d.name (with_comp cs c)) (comp_named d.name cs) d (new_comps (with_comp cs c) ds) known
    ∙ ap (unless_found (comp_named d.name cs) d) (still_new cs ds c others.1)

one_more : (cs : List Comp) (c : Comp) → signature (with_comp cs c) ≡ signature cs ++ signature (unless_found (comp_named c.name cs) c [])
one_more [] c = refl
one_more (d ∷ ds) c = by (bytes_eq d.name c.name) (one_more ds c)
  where
    by :
        (t : Bool) → signature (with_comp ds c) ≡ signature ds ++ signature (unless_found (comp_named c.name ds) c [])
        → signature (if t then comp d.name d.type (d.sets ++ c.sets) ∷ ds else d ∷ with_comp ds c)
        ≡ signature (d ∷ ds) ++ signature (unless_found (if t then Some (0, d) else later (comp_named c.name ds)) c [])
    by true rest = ap (λ v. (d.name, d.type) ∷ v) (sym (append-nil (signature ds)))
    by false rest =
        let found = ap signature (sym (found_later (comp_named c.name ds) c [])) in
        ap (λ v. (d.name, d.type) ∷ v) (rest ∙ ap (λ v. signature ds ++ v) found)

-- ---- many more

one_and_more : (o : Option (ℕ × Comp)) (d : Comp) (rest : List Comp) → signature (unless_found o d []) ++ signature rest ≡ signature (unless_found o d rest)
one_and_more None d rest = refl
one_and_more (Some o) d rest = refl

all_more : (cs ds : List Comp) → AreOnce ds → signature (with_comps cs ds) ≡ signature cs ++ signature (new_comps cs ds)
all_more cs [] once = sym (append-nil (signature cs))
all_more cs (d ∷ ds) once =
    let new = signature (unless_found (comp_named d.name cs) d []) in
    let rest = signature (new_comps cs ds) in
    all_more (with_comp cs d) ds once.1 ∙ ap (λ v. signature (with_comp cs d) ++ signature v) (still_new cs ds d once.0)
    ∙ ap (λ v. v ++ rest) (one_more cs d) ∙ append_assoc (signature cs) new rest
    ∙ ap (λ v. signature cs ++ v) (one_and_more (comp_named d.name cs) d (new_comps cs ds))

pub comps_joined : CompsJoined
comps_joined a b once = all_more a.comps b.comps once
