-- Components by name: their types and declared sets, before and after one more.
use Rattle.zf_schema.proofs.Prelude.{if◌then◌else◌, ◌++◌, ◌+◌, ◌∙◌, ◌∷◌, ◌≡◌, [], ap, arith, Bool, false, List, None, Option, refl, slice_get, Some, subst, suc, sym, true, zero, ℕ, append-nil, append_assoc, none-some, same_Some, bytes_eq, or_else_assoc, or_none, is_itself, is_same, swapped, Comp, first_named, later, Ty, AreOnce, comp, comp_named, with_comp, with_comps, sets_found, sets_named, type_found, type_named, option_or}

-- ---- what is found

pub later_type : (o : Option (ℕ × Comp)) → type_found (later o) ≡ type_found o
later_type None = refl
later_type (Some p) = refl

pub later_sets : (o : Option (ℕ × Comp)) → sets_found (later o) ≡ sets_found o
later_sets None = refl
later_sets (Some p) = refl

-- where no type is found, nothing is
pub not_found : (o : Option (ℕ × Comp)) → type_found o ≡ None → o ≡ None
not_found None e = refl
not_found (Some p) e = absurd (none-some p.1.type (sym e))

pub found : (o : Option (ℕ × Comp)) (t : Ty) → type_found o ≡ Some t → (p : ℕ × Comp) × (o ≡ Some p) × (p.1.type ≡ t)
found None t e = absurd (none-some t e)
found (Some p) t e = (p, refl, same_Some p.1.type t e)

-- the first in a list that has a name stands at the place that is found
pub named_there : {A : Type 0} (name : A → List ℕ) (x : List ℕ) (xs : List A) (p : ℕ × A) → first_named name x xs ≡ Some p → (slice_get xs p.0 ≡ Some p.1) × (name p.1 ≡ x)
named_there name x [] p e = absurd (none-some p e)
named_there {A} name x (y ∷ xs) p e = by (bytes_eq (name y) x) refl (first_named name x xs) (named_there name x xs) e
  where
    by :
        (t : Bool) → bytes_eq (name y) x ≡ t → (o : Option (ℕ × A)) → ((q : ℕ × A) → o ≡ Some q → (slice_get xs q.0 ≡ Some q.1) × (name q.1 ≡ x))
        → (if t then Some (0, y) else later o) ≡ Some p → (slice_get (y ∷ xs) p.0 ≡ Some p.1) × (name p.1 ≡ x)
    by true same o rest e = subst (λ (q : ℕ × A). (slice_get (y ∷ xs) q.0 ≡ Some q.1) × (name q.1 ≡ x)) (same_Some (0, y) p e) (refl, is_same (name y) x same)
    by false same None rest e = absurd (none-some p e)
    by false same (Some q) rest e =
        let there = rest q refl in
        let next : suc q.0 ≡ q.0 + 1 = omega arith in
        let behind : slice_get (y ∷ xs) (q.0 + 1) ≡ Some q.1 = subst (λ n. slice_get (y ∷ xs) n ≡ Some q.1) next there.0 in
        subst (λ (r : ℕ × A). (slice_get (y ∷ xs) r.0 ≡ Some r.1) × (name r.1 ≡ x)) (same_Some (q.0 + 1, q.1) p e) (behind, there.1)

pub stands_there : (x : List ℕ) (cs : List Comp) (p : ℕ × Comp) → comp_named x cs ≡ Some p → (slice_get cs p.0 ≡ Some p.1) × (p.1.name ≡ x)
stands_there = named_there (λ c. c.name)

-- ---- one more component

-- the type is that of the first that has the name
pub type_one_more : (x : List ℕ) (cs : List Comp) (c : Comp) → type_named x (with_comp cs c) ≡ option_or (type_named x cs) (if bytes_eq c.name x then Some c.type else None)
type_one_more x [] c = by (bytes_eq c.name x)
  where
    by : (t : Bool) → type_found (if t then Some (0, c) else None) ≡ (if t then Some c.type else None)
    by true = refl
    by false = refl
type_one_more x (d ∷ ds) c = by (bytes_eq d.name c.name) refl (type_one_more x ds c)
  where
    known :
        (t w : Bool) → t ≡ w
        → type_found (if t then Some (0, comp d.name d.type (d.sets ++ c.sets)) else later (comp_named x ds))
        ≡ option_or (type_found (if t then Some (0, d) else later (comp_named x ds))) (if w then Some c.type else None)
    known true w e = refl
    known false true e = absurd (cc)
    known false false e = sym (or_none (type_found (later (comp_named x ds))))

    passed :
        (t w : Bool) → type_named x (with_comp ds c) ≡ option_or (type_named x ds) (if w then Some c.type else None)
        → type_found (if t then Some (0, d) else later (comp_named x (with_comp ds c))) ≡ option_or (type_found (if t then Some (0, d) else later (comp_named x ds))) (if w then Some c.type else None)
    passed true w rest = refl
    passed false w rest = later_type (comp_named x (with_comp ds c)) ∙ rest ∙ ap (λ o. option_or o (if w then Some c.type else None)) (sym (later_type (comp_named x ds)))

    by :
        (s : Bool) → bytes_eq d.name c.name ≡ s → type_named x (with_comp ds c) ≡ option_or (type_named x ds) (if bytes_eq c.name x then Some c.type else None)
        → type_named x (if s then comp d.name d.type (d.sets ++ c.sets) ∷ ds else d ∷ with_comp ds c) ≡ option_or (type_named x (d ∷ ds)) (if bytes_eq c.name x then Some c.type else None)
    by true same rest = known (bytes_eq d.name x) (bytes_eq c.name x) (ap (λ n. bytes_eq n x) (is_same d.name c.name same))
    by false same rest = passed (bytes_eq d.name x) (bytes_eq c.name x) rest

-- the declared sets are added to those of the name
pub sets_one_more : (x : List ℕ) (cs : List Comp) (c : Comp) → sets_named x (with_comp cs c) ≡ sets_named x cs ++ (if bytes_eq c.name x then c.sets else [])
sets_one_more x [] c = by (bytes_eq c.name x)
  where
    by : (t : Bool) → sets_found (if t then Some (0, c) else None) ≡ (if t then c.sets else [])
    by true = refl
    by false = refl
sets_one_more x (d ∷ ds) c = by (bytes_eq d.name c.name) refl (sets_one_more x ds c)
  where
    known :
        (t w : Bool) → t ≡ w
        → sets_found (if t then Some (0, comp d.name d.type (d.sets ++ c.sets)) else later (comp_named x ds))
        ≡ sets_found (if t then Some (0, d) else later (comp_named x ds)) ++ (if w then c.sets else [])
    known true true e = refl
    known true false e = absurd (cc)
    known false true e = absurd (cc)
    known false false e = sym (append-nil (sets_found (later (comp_named x ds))))

    passed :
        (t w : Bool) → (t ≡ true → w ≡ false) → sets_named x (with_comp ds c) ≡ sets_named x ds ++ (if w then c.sets else [])
        → sets_found (if t then Some (0, d) else later (comp_named x (with_comp ds c))) ≡ sets_found (if t then Some (0, d) else later (comp_named x ds)) ++ (if w then c.sets else [])
    passed true true other rest = absurd (let e = other refl in (cc))
    passed true false other rest = sym (append-nil d.sets)
    passed false w other rest = later_sets (comp_named x (with_comp ds c)) ∙ rest ∙ ap (λ o. o ++ (if w then c.sets else [])) (sym (later_sets (comp_named x ds)))

    by :
        (s : Bool) → bytes_eq d.name c.name ≡ s → sets_named x (with_comp ds c) ≡ sets_named x ds ++ (if bytes_eq c.name x then c.sets else [])
        → sets_named x (if s then comp d.name d.type (d.sets ++ c.sets) ∷ ds else d ∷ with_comp ds c) ≡ sets_named x (d ∷ ds) ++ (if bytes_eq c.name x then c.sets else [])
    by true same rest = known (bytes_eq d.name x) (bytes_eq c.name x) (ap (λ n. bytes_eq n x) (is_same d.name c.name same))
    by false same rest =
        passed (bytes_eq d.name x) (bytes_eq c.name x) (λ e. swapped c.name x ∙ ap (λ n. bytes_eq n c.name) (sym (is_same d.name x e)) ∙ same) rest

-- ---- many more

pub joined_type : (x : List ℕ) (cs ds : List Comp) → type_named x (with_comps cs ds) ≡ option_or (type_named x cs) (type_named x ds)
joined_type x cs [] = sym (or_none (type_named x cs))
joined_type x cs (d ∷ ds) =
    joined_type x (with_comp cs d) ds ∙ ap (λ o. option_or o (type_named x ds)) (type_one_more x cs d)
    ∙ or_else_assoc (type_named x cs) (if bytes_eq d.name x then Some d.type else None) (type_named x ds) ∙ ap (option_or (type_named x cs)) (first (bytes_eq d.name x))
  where
    first : (t : Bool) → option_or (if t then Some d.type else None) (type_named x ds) ≡ type_found (if t then Some (0, d) else later (comp_named x ds))
    first true = refl
    first false = sym (later_type (comp_named x ds))

pub joined_sets : (x : List ℕ) (cs ds : List Comp) → AreOnce ds → sets_named x (with_comps cs ds) ≡ sets_named x cs ++ sets_named x ds
joined_sets x cs [] once = sym (append-nil (sets_named x cs))
joined_sets x cs (d ∷ ds) once =
    joined_sets x (with_comp cs d) ds once.1 ∙ ap (λ o. o ++ sets_named x ds) (sets_one_more x cs d)
    ∙ append_assoc (sets_named x cs) (if bytes_eq d.name x then d.sets else []) (sets_named x ds)
    ∙ ap (λ o. sets_named x cs ++ o) (first (bytes_eq d.name x) (λ e. subst (λ n. comp_named n ds ≡ None) (is_same d.name x e) once.0))
  where
    first : (t : Bool) → (t ≡ true → comp_named x ds ≡ None) → (if t then d.sets else []) ++ sets_named x ds ≡ sets_found (if t then Some (0, d) else later (comp_named x ds))
    first true other = ap (λ o. d.sets ++ sets_found o) (other refl) ∙ append-nil d.sets
    first false other = sym (later_sets (comp_named x ds))

-- ---- components that have names of their own

-- the type of the component at a place is that of its name
pub type_of_once : (cs : List Comp) (i : ℕ) (c : Comp) → AreOnce cs → slice_get cs i ≡ Some c → type_named c.name cs ≡ Some c.type
type_of_once [] i c once e = absurd (none-some c e)
type_of_once (d ∷ ds) zero c once e = subst (λ v. type_named v.name (d ∷ ds) ≡ Some v.type) (same_Some d c e) (itself (bytes_eq d.name d.name) (is_itself d.name))
  where
    itself : (t : Bool) → t ≡ true → type_found (if t then Some (0, d) else later (comp_named d.name ds)) ≡ Some d.type
    itself true e = refl
    itself false e = absurd (cc)
type_of_once (d ∷ ds) (suc i) c once e = by (bytes_eq d.name c.name) (is_same d.name c.name) (type_of_once ds i c once.1 e)
  where
    by :
        (t : Bool) → (t ≡ true → d.name ≡ c.name) → type_named c.name ds ≡ Some c.type
        → type_found (if t then Some (0, d) else later (comp_named c.name ds)) ≡ Some c.type
    by true same rest = absurd (none-some c.type (ap type_found (sym (subst (λ n. comp_named n ds ≡ None) (same refl) once.0)) ∙ rest))
    by false same rest = later_type (comp_named c.name ds) ∙ rest
