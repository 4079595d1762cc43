-- Lists of types, compared from the front and counted from the back.
use Rattle.zf_term.proofs.Prelude.{◌+◌, ◌<◌, ◌↔◌, ◌∙◌, ◌∷◌, ◌≡◌, [], add-one, ap, arith, drop, get_or, length, List, map, refl, suc, sym, take, zero, ℕ, no_types, type_nodes, nodes_of_all, pair_type, product, Ty, type, types, Tys, type_of, ZType}
use Rattle.zf_term.specs.declared.ztype.ZType.TheVariants as v
use Rattle.zf_term.proofs.TypesSeen.{of-Product}

abbrev list_of : Tys → List Ty
list_of no_types = []
list_of (type t ts) = t ∷ list_of ts

back : (ts : List Ty) → list_of (types ts) ≡ ts
back [] = refl
back (t ∷ ts) = ap (λ us. t ∷ us) (back ts)

-- lists of types are told apart by what they make
pub types_apart : (ts us : List Ty) → types ts ≡ types us → ts ≡ us
types_apart ts us e = sym (back ts) ∙ ap list_of e ∙ back us

pub grown : (xs ys : List ZType) (i : ℕ) (x y : ZType) → x ≡ get_or xs i x → y ≡ get_or ys i y → i < length xs → i < length ys
    → take i (map type_of xs) ≡ take i (map type_of ys) → type_of x ≡ type_of y → take (suc i) (map type_of xs) ≡ take (suc i) (map type_of ys)
grown [] ys i x y p q l m e h = absurd (omega arith)
grown (a ∷ xs) [] i x y p q l m e h = absurd (omega arith)
grown (a ∷ xs) (b ∷ ys) zero x y p q l m e h = ap (λ t. t ∷ []) (ap type_of (sym p) ∙ h ∙ ap type_of q)
grown (a ∷ xs) (b ∷ ys) (suc i) x y p q l m e h =
    let es : (type_of a ≡ type_of b) × (take i (map type_of xs) ≡ take i (map type_of ys)) = ((cc), (cc)) in
    let rest = grown xs ys i x y p q (omega arith) (omega arith) es.1 h in
    (cc)

pub apart : (xs ys : List ZType) (i : ℕ) (x y : ZType) → x ≡ get_or xs i x → y ≡ get_or ys i y → i < length xs → i < length ys → map type_of xs ≡ map type_of ys → type_of x ≡ type_of y
apart [] ys i x y p q l m e = absurd (omega arith)
apart (a ∷ xs) [] i x y p q l m e = absurd (omega arith)
apart (a ∷ xs) (b ∷ ys) zero x y p q l m e = let h : type_of a ≡ type_of b = (cc) in ap type_of p ∙ h ∙ ap type_of (sym q)
apart (a ∷ xs) (b ∷ ys) (suc i) x y p q l m e =
    let es : map type_of xs ≡ map type_of ys = (cc) in
    apart xs ys i x y p q (omega arith) (omega arith) es

pub same_products : (xs ys : List ZType) (a b : ZType) → a ≡ v.Product xs → b ≡ v.Product ys → (type_of a ≡ type_of b) ↔ (map type_of xs ≡ map type_of ys)
same_products xs ys a b p q =
    let l = ap type_of p ∙ of-Product xs in
    let r = ap type_of q ∙ of-Product ys in
    (λ e. let s : types (map type_of xs) ≡ types (map type_of ys) = (cc) in types_apart _ _ s, λ e. l ∙ ap (λ ts. product (types ts)) e ∙ sym r)

-- ---- pairs

of_two : (xs : List ZType) (t u : Ty) → types (map type_of xs) ≡ type t (type u no_types) → length xs ≡ 2
of_two [] t u e = (cc)
of_two (x ∷ []) t u e = (cc)
of_two (x ∷ y ∷ []) t u e = refl
of_two (x ∷ y ∷ z ∷ zs) t u e = (cc)

pub two_parts : (a : ZType) (xs : List ZType) (t u : Ty) → a ≡ v.Product xs → type_of a ≡ pair_type t u → length xs ≡ 2
two_parts a xs t u e h =
    let p = sym (ap type_of e ∙ of-Product xs) ∙ h in
    let q : types (map type_of xs) ≡ type t (type u no_types) = (cc) in
    of_two xs t u q

pub two_made : (a : ZType) (xs ys : List ZType) (first second : ZType) → a ≡ v.Product xs → ys ≡ xs → length ys ≡ 2 → first ≡ get_or ys 0 first
    → second ≡ get_or ys 1 second → type_of a ≡ pair_type (type_of first) (type_of second)
two_made a xs [] first second e f l p q = absurd (omega (arith, l))
two_made a xs (x ∷ []) first second e f l p q = absurd (omega (arith, l))
two_made a xs (x ∷ y ∷ []) first second e f l p q =
    let is : type_of a ≡ pair_type (type_of x) (type_of y) = ap type_of (e ∙ ap v.Product (sym f)) ∙ of-Product (x ∷ y ∷ []) in
    let one : first ≡ x = p in
    let two : second ≡ y = q in
    (cc)
two_made a xs (x ∷ y ∷ z ∷ zs) first second e f l p q = absurd (omega (arith, l))

pub one_pair : (xs : List ZType) (a : ZType) → a ≡ v.Product xs → length xs ≡ 2 → (t u : Ty) × (type_of a ≡ pair_type t u)
one_pair [] a e l = absurd (omega (arith, l))
one_pair (x ∷ []) a e l = absurd (omega (arith, l))
one_pair (x ∷ y ∷ []) a e l = (type_of x, type_of y, ap type_of e ∙ of-Product (x ∷ y ∷ []))
one_pair (x ∷ y ∷ z ∷ zs) a e l = absurd (omega (arith, l))

-- ---- nodes

-- what is counted of the rest is counted of its first part, and of what is after it
counted_on : (xs : List ZType) (i : ℕ) (x : ZType) → x ≡ get_or xs i x → i < length xs
    → nodes_of_all (types (map type_of (drop i xs))) ≡ type_nodes (type_of x) + nodes_of_all (types (map type_of (drop (suc i) xs)))
counted_on [] i x p l = absurd (omega arith)
counted_on (a ∷ xs) zero x p l = ap (λ t. type_nodes (type_of t) + nodes_of_all (types (map type_of xs))) (sym p)
counted_on (a ∷ xs) (suc i) x p l = counted_on xs i x p (omega arith)

pub counted : (xs : List ZType) (i : ℕ) (x : ZType) → x ≡ get_or xs i x → i < length xs
    → nodes_of_all (types (map type_of (drop i xs))) ≡ type_nodes (type_of x) + nodes_of_all (types (map type_of (drop (i + 1) xs)))
counted xs i x p l = rw add-one (counted_on xs i x p l)
