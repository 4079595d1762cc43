-- Types of members, where they are not all the same, and where they are.
use Rattle.zf_typing.proofs.Prelude.{◌<◌, ◌∙◌, ◌∷◌, ◌≡◌, ◌≤◌, [], ap, arith, get_or, inl, inr, length, List, map, None, refl, Some, subst, suc, sym, zero, ℕ, ⊎_elim, slice_get, span_of, Tree, tree_of, trees, Listed, Display, Product, Tuple, Term, no_types, Ty, type, type_of, types, Tys, mismatch, no_members, Offence, ZType, DiffersAt, IsOther, Differ, OneDiffers, typed, Scope, AreAll, AreMembers, IsOf, Span}

-- as many terms as types
pub lengths : (form : Listed) (s : Scope) (es : List Tree) (us : List Ty) → AreMembers form s (trees es) (types us) → length es ≡ length us
lengths form s [] [] h = refl
lengths form s [] (u ∷ us) h = absurd (cc)
lengths form s (e ∷ es) [] h = let q = h.4 in absurd (cc)
lengths form s (e ∷ es) (u ∷ us) h =
    let p : types us ≡ h.1 = let q = h.4 in (cc) in
    ap suc (lengths form s es us (subst (λ vs. AreMembers form s (trees es) vs) (sym p) h.3))

-- a term of another type than the first
one_differs : (s : Scope) (u : Ty) (es : List Tree) (us : Tys) (o : Offence) (m : Span) → AreMembers Display s (trees es) us → IsOther u es us o m → OneDiffers s u (trees es) o m
one_differs s u [] us o m h d = d
one_differs s u (e ∷ es) no_types o m h d = absurd d
one_differs s u (e ∷ es) (type v vs) o m h d =
    let q = h.4 in
    let first : v ≡ h.0 = (cc) in
    let rest : vs ≡ h.1 = (cc) in
    ⊎_elim (λ w. inl (h.0, h.2, (λ same. w.0 (same ∙ sym first)), w.1 ∙ ap (λ t. mismatch (typed u) (typed t)) first, w.2))
    (λ w. inr (one_differs s u es vs o m (subst (λ ws. AreMembers Display s (trees es) ws) (sym rest) h.3) w)) d

differ : (s : Scope) (l : Span) (es : List Tree) (us : Tys) (o : Offence) (m : Span) → AreMembers Display s (trees es) us → DiffersAt l es us o m → Differ Display s l (trees es) o m
differ s l [] us o m h d = (d.1, d.2)
differ s l (e ∷ es) no_types o m h d = absurd d
differ s l (e ∷ es) (type v vs) o m h d =
    let q = h.4 in
    let first : v ≡ h.0 = (cc) in
    let rest : vs ≡ h.1 = (cc) in
    (v, subst (λ w. IsOf s e (typed w)) (sym first) h.2, one_differs s v es vs o m (subst (λ ws. AreMembers Display s (trees es) ws) (sym rest) h.3) d)

pub list_differs : (form : Listed) (s : Scope) (l : Span) (es : List Tree) (us : Tys) (k : Offence) (m : Span) → AreMembers form s (trees es) us
    → (form ≡ Display) × DiffersAt l es us k m → Differ form s l (trees es) k m
list_differs Tuple s l es us k m h d = let e = d.0 in absurd (cc)
list_differs Product s l es us k m h d = let e = d.0 in absurd (cc)
list_differs Display s l es us k m h d = differ s l es us k m h d.1

-- ---- what is found in a list of types

pub none_first : (ts : List ZType) (rs : List Term) (l : Span) → None ≡ slice_get ts 0 → length rs ≡ length ts → DiffersAt l (map tree_of rs) (types (map type_of ts)) no_members l
none_first [] [] l h e = (refl, refl, refl)
none_first [] (r ∷ rs) l h e = absurd (omega (arith, e))
none_first (t ∷ ts) rs l h e = absurd (cc)

other_at : (u : Ty) (ts : List ZType) (rs : List Term) (i : ℕ) (t : ZType) (r : Term) → i < length ts → length rs ≡ length ts → t ≡ get_or ts i t
    → r ≡ get_or rs i r → (u ≡ type_of t → ⊥) → IsOther u (map tree_of rs) (types (map type_of ts)) (mismatch (typed u) (typed (type_of t)))
    (span_of (tree_of r))
other_at u [] rs i t r l e p q d = absurd (omega arith)
other_at u (v ∷ ts) [] i t r l e p q d = absurd (omega (arith, e))
other_at u (v ∷ ts) (w ∷ rs) zero t r l e p q d = inl ((λ same. d (same ∙ ap type_of (sym p))), ap (λ x. mismatch (typed u) (typed (type_of x))) p, ap (λ x. span_of (tree_of x)) q)
other_at u (v ∷ ts) (w ∷ rs) (suc i) t r l e p q d = inr (other_at u ts rs i t r (omega arith) (omega (arith, e)) p q d)

pub differs_at : (ts : List ZType) (rs : List Term) (first : ZType) (l : Span) (i : ℕ) (t : ZType) (r : Term)
    → Some first ≡ slice_get ts 0 → 1 ≤ i → i < length ts
    → length rs ≡ length ts → t ≡ get_or ts i t → r ≡ get_or rs i r → (type_of first ≡ type_of t → ⊥)
    → DiffersAt l (map tree_of rs) (types (map type_of ts)) (mismatch (typed (type_of first)) (typed (type_of t))) (span_of (tree_of r))
differs_at [] rs first l i t r f o m e p q d = absurd (omega arith)
differs_at (v ∷ ts) [] first l i t r f o m e p q d = absurd (omega (arith, e))
differs_at (v ∷ ts) (w ∷ rs) first l zero t r f o m e p q d = absurd (omega (arith, o))
differs_at (v ∷ ts) (w ∷ rs) first l (suc i) t r f o m e p q d =
    let same : first ≡ v = (cc) in
    subst (λ x. IsOther (type_of v) (map tree_of rs) (types (map type_of ts)) (mismatch (typed (type_of x)) (typed (type_of t))) (span_of (tree_of r))) (sym same)
    (other_at (type_of v) ts rs i t r (omega arith) (omega (arith, e)) p q (λ h. d (ap type_of same ∙ h)))

pub first_among : (ts : List ZType) (first : ZType) → Some first ≡ slice_get ts 0 → 0 < length ts
first_among [] first h = absurd (cc)
first_among (t ∷ ts) first h = omega arith

pub first_kept : (ts : List ZType) (first : ZType) (i : ℕ) → Some first ≡ slice_get ts 0 → i < 1 → type_of first ≡ type_of (get_or ts i first)
first_kept [] first i h l = absurd (cc)
first_kept (t ∷ ts) first zero h l = let e : first ≡ t = (cc) in ap type_of e
first_kept (t ∷ ts) first (suc i) h l = absurd (omega (arith, l))

pub all_same : (ts : List ZType) (first : ZType) → 0 < length ts → ((i : ℕ) → i < length ts → type_of first ≡ type_of (get_or ts i first)) → AreAll (types (map type_of ts)) (type_of first)
all_same [] first l h = absurd (omega arith)
all_same (t ∷ []) first l h = sym (h 0 (omega arith))
all_same (t ∷ u ∷ ts) first l h = (sym (h 0 (omega arith)), all_same (u ∷ ts) first (omega arith) (λ i m. h (suc i) (omega (arith, m))))
