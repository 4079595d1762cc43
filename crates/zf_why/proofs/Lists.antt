-- Lists by their places.
use Rattle.zf_why.proofs.Prelude.{◌++◌, ◌+◌, ◌<◌, ◌≤◌, ◌∙◌, ◌∷◌, ◌≡◌, [], ap, arith, Bool, drop, false, get_or, length, List, map, refl, Some, subst, suc, sym, take, true, zero, ℕ, AllByRecursion, slice_get, chosen_of, take_all, take_more, replicate, seen_chosen, stays_out}

-- what stands at a place, seen through a function
pub seen_at : {A B : Type 0} (f : A → B) (xs : List A) (i : ℕ) (x : A) → x ≡ get_or xs i x → i < length xs → slice_get (map f xs) i ≡ Some (f x)
seen_at f [] i x at l = absurd (omega arith)
seen_at f (y ∷ ys) zero x at l = ap (λ z. Some (f z)) (sym at)
seen_at f (y ∷ ys) (suc i) x at l = seen_at f ys i x at (omega arith)

pub all_at : {A : Type 0} (P : A → Type 0) (xs : List A) (i : ℕ) (x : A) → slice_get xs i ≡ Some x → AllByRecursion P xs → P x
all_at P [] i x at h = absurd (cc)
all_at P (y ∷ ys) zero x at h = let same : y ≡ x = cc in subst P same h.0
all_at P (y ∷ ys) (suc i) x at h = all_at P ys i x at h.1

pub all_append : {A : Type 0} (P : A → Type 0) (xs ys : List A) → AllByRecursion P xs → AllByRecursion P ys → AllByRecursion P (xs ++ ys)
all_append P [] ys h k = k
all_append P (x ∷ xs) ys h k = (h.0, all_append P xs ys h.1 k)

-- one more is taken, and then all are
pub one_more : {A : Type 0} (xs old : List A) (i : ℕ) (x y : A) → x ≡ get_or xs i x → y ≡ x → i < length xs → old ≡ take i xs → old ++ y ∷ [] ≡ take (i + 1) xs
one_more xs old i x y at same l is = ap (λ zs. zs ++ y ∷ []) is ∙ ap (λ z. take i xs ++ z ∷ []) (same ∙ at) ∙ sym (take_more xs i x l)

pub all_taken : {A : Type 0} (xs old : List A) (i : ℕ) → length xs ≤ i → old ≡ take i xs → old ≡ xs
all_taken xs old i l is = is ∙ take_all i xs l

-- some and what is chosen of others, seen through a function
seen_beside : {A B : Type 0} (f : A → B) (given xs : List A) (m : List Bool) → map f (given ++ chosen_of xs m) ≡ map f given ++ chosen_of (map f xs) m
seen_beside f [] xs m = seen_chosen f xs m
seen_beside f (y ∷ ys) xs m = ap (λ zs. f y ∷ zs) (seen_beside f ys xs m)

pub seen_both : {A B : Type 0} (f : A → B) (given xs part : List A) (m : List Bool) → part ≡ given ++ chosen_of xs m → map f part ≡ map f given ++ chosen_of (map f xs) m
seen_both f given xs part m is = ap (map f) is ∙ seen_beside f given xs m

pub read_at : {A : Type 0} (xs : List A) (i : ℕ) (d x : A) → i < length xs → get_or xs i d ≡ x → slice_get xs i ≡ Some x
read_at [] i d x l is = absurd (omega arith)
read_at (y ∷ ys) zero d x l is = ap (λ z. Some z) is
read_at (y ∷ ys) (suc i) d x l is = read_at ys i d x (omega arith) is

pub some_at : {A : Type 0} (xs : List A) (i : ℕ) → i < length xs → (x : A) × (slice_get xs i ≡ Some x)
some_at [] i l = absurd (omega arith)
some_at (y ∷ ys) zero l = (y, refl)
some_at (y ∷ ys) (suc i) l = some_at ys i (omega arith)

-- what is not chosen stays out
pub stays_out_at : {A : Type 0} (whole part xs : List A) (m : List Bool) (i : ℕ) → i < length xs → slice_get m i ≡ Some false
    → whole ≡ part ++ chosen_of (drop i xs) (drop i m) → whole ≡ part ++ chosen_of (drop (i + 1) xs) (drop (i + 1) m)
stays_out_at whole part xs m i l is same = let x = some_at xs i l in stays_out whole part xs m i x.0 x.1 is same

pub all_seen : {A B : Type 0} (f : A → B) (xs : List A) → chosen_of (map f xs) (replicate (length xs) true) ≡ map f xs
all_seen f [] = refl
all_seen f (x ∷ xs) = ap (λ ys. f x ∷ ys) (all_seen f xs)

-- what is said of two is said of two that are equal to them
pub of_equal : {A B : Type 0} (P : A → B → Type 0) {a x : A} {b y : B} → a ≡ x → b ≡ y → P a b → P x y
of_equal P {a = a} {x = x} {b = b} p q h = subst (λ w. P x w) q (subst (λ z. P z b) p h)
