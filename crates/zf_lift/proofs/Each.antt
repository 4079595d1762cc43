-- Lists of which each two items stand in a relation.
use Rattle.zf_lift.proofs.Prelude.{◌++◌, ◌+◌, ◌<◌, ◌∷◌, ◌≡◌, ◌≤◌, [], add-one, ap, arith, get_or, length, List, map, refl, Some, subst, suc, sym, take, zero, ℕ, slice_get, AreEach}

pub each_also : {A : Type 0} → (R S : A → A → Type 0) (xs ys : List A) → ((x y : A) → R x y → S x y) → AreEach R xs ys → AreEach S xs ys
each_also R S [] [] f h = tt
each_also R S [] (y ∷ ys) f h = h
each_also R S (x ∷ xs) [] f h = h
each_also R S (x ∷ xs) (y ∷ ys) f h = (f x y h.0, each_also R S xs ys f h.1)

one_more : {A B : Type 0} → (g : B → A) (R : A → A → Type 0) (ps xs : List B) (i : ℕ) (x p : B) → x ≡ get_or xs i x → i < length xs
    → AreEach R (map g ps) (map g (take i xs)) → R (g p) (g x) → AreEach R (map g (ps ++ p ∷ [])) (map g (take (suc i) xs))
one_more g R ps [] i x p at l h r = absurd (omega arith)
one_more g R [] (y ∷ ys) zero x p at l h r = (subst (λ z. R (g p) (g z)) at r, tt)
one_more g R (q ∷ ps) (y ∷ ys) zero x p at l h r = absurd h
one_more g R [] (y ∷ ys) (suc i) x p at l h r = absurd h
one_more g R (q ∷ ps) (y ∷ ys) (suc i) x p at l h r = (h.0, one_more g R ps ys i x p at (omega arith) h.1 r)

pub each_more : {A B : Type 0} → (g : B → A) (R : A → A → Type 0) (ps xs : List B) (i : ℕ) (x p : B) → x ≡ get_or xs i x → i < length xs
    → AreEach R (map g ps) (map g (take i xs)) → R (g p) (g x) → AreEach R (map g (ps ++ p ∷ [])) (map g (take (i + 1) xs))
each_more g R ps xs i x p at l h r = rw add-one (one_more g R ps xs i x p at l h r)

pub whole : {B : Type 0} → (xs : List B) (i : ℕ) → length xs ≤ i → take i xs ≡ xs
whole [] zero l = refl
whole [] (suc i) l = refl
whole (c ∷ cs) zero l = absurd (omega arith)
whole (c ∷ cs) (suc i) l = ap (λ ds. c ∷ ds) (whole cs i (omega arith))

pub each_done : {A B : Type 0} → (g : B → A) (R : A → A → Type 0) (ps : List A) (xs : List B) (i : ℕ) → length xs ≤ i → AreEach R ps (map g (take i xs)) → AreEach R ps (map g xs)
each_done g R ps xs i l h = subst (λ ys. AreEach R ps (map g ys)) (whole xs i l) h

-- the items at one place
pub at_place : {A : Type 0} → (R : A → A → Type 0) (xs ys : List A) (i : ℕ) (x y : A) → slice_get xs i ≡ Some x → slice_get ys i ≡ Some y → AreEach R xs ys → R x y
at_place R [] ys i x y p q h = absurd (cc)
at_place R (w ∷ xs) [] i x y p q h = absurd h
at_place R (w ∷ xs) (z ∷ ys) zero x y p q h = let d : w ≡ x = (cc) in let e : z ≡ y = (cc) in subst (λ v. R x v) e (subst (λ v. R v z) d h.0)
at_place R (w ∷ xs) (z ∷ ys) (suc i) x y p q h = at_place R xs ys i x y p q h.1

pub stands_at : {A B : Type 0} → (g : B → A) (ps : List B) (i : ℕ) (p : B) → p ≡ get_or ps i p → i < length ps → slice_get (map g ps) i ≡ Some (g p)
stands_at g [] i p at l = absurd (omega arith)
stands_at g (q ∷ ps) zero p at l = ap (λ z. Some (g z)) (sym at)
stands_at g (q ∷ ps) (suc i) p at l = stands_at g ps i p at (omega arith)

pub as_many : {A B : Type 0} → (g : B → A) (R : A → A → Type 0) (ps : List B) (ys : List A) → AreEach R (map g ps) ys → length ps ≡ length ys
as_many g R [] [] h = refl
as_many g R [] (y ∷ ys) h = absurd h
as_many g R (p ∷ ps) [] h = absurd h
as_many g R (p ∷ ps) (y ∷ ys) h = ap suc (as_many g R ps ys h.1)
