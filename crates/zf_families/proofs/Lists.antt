-- Lists: what holds of each item, membership, and strict order.
use Rattle.zf_families.proofs.Prelude.{◌++◌, ◌∙◌, ◌∷◌, ◌≡◌, ◌⊎◌, [], ap, Bool, cond, false, inl, inr, List, map, refl, subst, suc, sym, take, true, zero, ℕ, ⊎_elim, filter, flat_map}

abbrev pub Each : {X : Type 0} → (X → Type 0) → List X → Type 0
Each P [] = Unit {0}
Each P (x ∷ xs) = P x × Each P xs

abbrev pub In : {X : Type 0} → X → List X → Type 0
In z [] = ⊥
In z (x ∷ xs) = (x ≡ z) ⊎ In z xs

-- each stands in this relation to all after it
abbrev pub IsOrdered : {X : Type 0} → (X → X → Type 0) → List X → Type 0
IsOrdered R [] = Unit {0}
IsOrdered R (x ∷ xs) = Each (R x) xs × IsOrdered R xs

pub each_at : {X : Type 0} (P : X → Type 0) (xs : List X) (z : X) → Each P xs → In z xs → P z
each_at P [] z h m = absurd m
each_at P (x ∷ xs) z h m = ⊎_elim (λ s. subst P s h.0) (λ n. each_at P xs z h.1 n) m

pub each : {X : Type 0} (P : X → Type 0) (xs : List X) → ((z : X) → In z xs → P z) → Each P xs
each P [] h = tt
each P (x ∷ xs) h = (h x (inl refl), each P xs (λ z m. h z (inr m)))

pub each_append : {X : Type 0} (P : X → Type 0) (xs ys : List X) → Each P xs → Each P ys → Each P (xs ++ ys)
each_append P [] ys h k = k
each_append P (x ∷ xs) ys h k = (h.0, each_append P xs ys h.1 k)

pub each_filter : {X : Type 0} (P : X → Type 0) (p : X → Bool) (xs : List X) → Each P xs → Each P (filter p xs)
each_filter P p [] h = tt
each_filter P p (x ∷ xs) h = elim (p x) as (λ b. Each P (cond b (x ∷ filter p xs) (filter p xs))) [
  | true ↦ (h.0, each_filter P p xs h.1)
  | false ↦ each_filter P p xs h.1
]

pub each_map : {X Y : Type 0} (P : Y → Type 0) (f : X → Y) (xs : List X) → Each (λ x. P (f x)) xs → Each P (map f xs)
each_map P f [] h = tt
each_map P f (x ∷ xs) h = (h.0, each_map P f xs h.1)

pub each_weaker : {X : Type 0} (P Q : X → Type 0) (xs : List X) → ((x : X) → P x → Q x) → Each P xs → Each Q xs
each_weaker P Q [] f h = tt
each_weaker P Q (x ∷ xs) f h = (f x h.0, each_weaker P Q xs f h.1)

pub each_take : {X : Type 0} (P : X → Type 0) (n : ℕ) (xs : List X) → Each P xs → Each P (take n xs)
each_take P zero xs h = tt
each_take P (suc n) [] h = tt
each_take P (suc n) (x ∷ xs) h = (h.0, each_take P n xs h.1)

pub ordered_append : {X : Type 0} (R : X → X → Type 0) (xs ys : List X) → IsOrdered R xs → IsOrdered R ys → Each (λ x. Each (R x) ys) xs → IsOrdered R (xs ++ ys)
ordered_append R [] ys h k f = k
ordered_append R (x ∷ xs) ys h k f = (each_append (R x) xs ys h.0 f.0, ordered_append R xs ys h.1 k f.1)

pub ordered_filter : {X : Type 0} (R : X → X → Type 0) (p : X → Bool) (xs : List X) → IsOrdered R xs → IsOrdered R (filter p xs)
ordered_filter R p [] h = tt
ordered_filter R p (x ∷ xs) h = elim (p x) as (λ b. IsOrdered R (cond b (x ∷ filter p xs) (filter p xs))) [
  | true ↦ (each_filter (R x) p xs h.0, ordered_filter R p xs h.1)
  | false ↦ ordered_filter R p xs h.1
]

pub ordered_map : {X Y : Type 0} (R : X → X → Type 0) (S : Y → Y → Type 0) (f : X → Y) (xs : List X) → ((a b : X) → R a b → S (f a) (f b)) → IsOrdered R xs → IsOrdered S (map f xs)
ordered_map R S f [] k h = tt
ordered_map R S f (x ∷ xs) k h = (each_map (S (f x)) f xs (each_weaker (R x) (λ y. S (f x) (f y)) xs (λ y. k x y) h.0), ordered_map R S f xs k h.1)

pub ordered_take : {X : Type 0} (R : X → X → Type 0) (n : ℕ) (xs : List X) → IsOrdered R xs → IsOrdered R (take n xs)
ordered_take R zero xs h = tt
ordered_take R (suc n) [] h = tt
ordered_take R (suc n) (x ∷ xs) h = (each_take (R x) n xs h.0, ordered_take R n xs h.1)

-- ---- membership

pub in_left : {X : Type 0} (xs ys : List X) (z : X) → In z xs → In z (xs ++ ys)
in_left [] ys z m = absurd m
in_left (x ∷ xs) ys z m = ⊎_elim (λ s. inl s) (λ n. inr (in_left xs ys z n)) m

pub in_right : {X : Type 0} (xs ys : List X) (z : X) → In z ys → In z (xs ++ ys)
in_right [] ys z m = m
in_right (x ∷ xs) ys z m = inr (in_right xs ys z m)

pub in_either : {X : Type 0} (xs ys : List X) (z : X) → In z (xs ++ ys) → In z xs ⊎ In z ys
in_either [] ys z m = inr m
in_either (x ∷ xs) ys z m = ⊎_elim (λ s. inl (inl s)) (λ n. ⊎_elim (λ l. inl (inr l)) (λ r. inr r) (in_either xs ys z n)) m

pub in_filter : {X : Type 0} (p : X → Bool) (xs : List X) (z : X) → In z xs → p z ≡ true → In z (filter p xs)
in_filter p [] z m h = absurd m
in_filter p (x ∷ xs) z m h = ⊎_elim
    (λ s. let e : p x ≡ true = ap p s ∙ h in subst (λ b. In z (cond b (x ∷ filter p xs) (filter p xs))) (sym e) (inl s))
    (λ n. elim (p x) as (λ b. In z (cond b (x ∷ filter p xs) (filter p xs))) [ true ↦ inr (in_filter p xs z n h) | false ↦ in_filter p xs z n h ])
    m

pub in_from_filter : {X : Type 0} (p : X → Bool) (xs : List X) (z : X) → In z (filter p xs) → In z xs × (p z ≡ true)
in_from_filter p [] z m = absurd m
in_from_filter {X} p (x ∷ xs) z m = go (in_from_filter p xs z) (p x) refl m
  where
    go : (In z (filter p xs) → In z xs × (p z ≡ true)) → (b : Bool) → p x ≡ b → In z (cond b (x ∷ filter p xs) (filter p xs)) → In z (x ∷ xs) × (p z ≡ true)
    go ih true k n = ⊎_elim (λ s. (inl s, ap p (sym s) ∙ k)) (λ r. (inr (ih r).0, (ih r).1)) n
    go ih false k n = (inr (ih n).0, (ih n).1)

pub in_map : {X Y : Type 0} (f : X → Y) (xs : List X) (z : X) → In z xs → In (f z) (map f xs)
in_map f [] z m = absurd m
in_map f (x ∷ xs) z m = ⊎_elim (λ s. inl (ap f s)) (λ n. inr (in_map f xs z n)) m

pub in_from_map : {X Y : Type 0} (f : X → Y) (xs : List X) (y : Y) → In y (map f xs) → (z : X) × (f z ≡ y) × In z xs
in_from_map f [] y m = absurd m
in_from_map f (x ∷ xs) y m = ⊎_elim (λ s. (x, s, inl refl)) (λ n. let r = in_from_map f xs y n in (r.0, r.1, inr r.2)) m

pub in_flat_map : {X Y : Type 0} (f : X → List Y) (xs : List X) (x : X) (y : Y) → In x xs → In y (f x) → In y (flat_map f xs)
in_flat_map f [] x y m n = absurd m
in_flat_map f (z ∷ xs) x y m n = ⊎_elim
    (λ s. in_left (f z) (flat_map f xs) y (subst (λ w. In y (f w)) (sym s) n))
    (λ k. in_right (f z) (flat_map f xs) y (in_flat_map f xs x y k n))
    m

pub in_from_flat_map : {X Y : Type 0} (f : X → List Y) (xs : List X) (y : Y) → In y (flat_map f xs) → (x : X) × In x xs × In y (f x)
in_from_flat_map f [] y m = absurd m
in_from_flat_map f (z ∷ xs) y m = ⊎_elim
    (λ l. (z, inl refl, l))
    (λ r. let q = in_from_flat_map f xs y r in (q.0, inr q.1, q.2))
    (in_either (f z) (flat_map f xs) y m)
