-- How many injections there are.
use Rattle.zf_families.proofs.Prelude.{◌&&◌, ◌*◌, ◌++◌, ◌+◌, ◌-◌, ◌∙◌, ◌∷◌, ◌≡◌, [], ap, arith, Bool, cond, Equal, false, Greater, inl, inr, length, Less, List, map, not, Ordering, refl, subst, suc, true, ℕ, ⊎_elim, tied_itself, length-append, length-map, filter, is_eq, ordering_reverse, pair, IsAscending, IsMember, value_order, Value, falling, partial_injection_count, extended, extensions, fits_apart, pairs, second, some, whole, AllByRecursion, total-law}
use Rattle.std.proofs.lemmas.List.Elements.{filter-append}
use Rattle.zf_families.proofs.FunctionLaws.{second-pair}
use Rattle.zf_families.proofs.Comparisons.{below_rest}

-- two values are two
abbrev pub is_other : Value → Value → Bool
is_other y v = not (is_eq (value_order y v))

-- the members but y
abbrev others : Value → List Value → List Value
others y b = filter (is_other y) b

pub seconds : (x y u v : Value) → not (is_eq (value_order (second (pair x y)) (second (pair u v)))) ≡ is_other y v
seconds x y u v = ap (λ p. not (is_eq (value_order p (second (pair u v))))) (second-pair x y) ∙ ap (λ p. not (is_eq (value_order y p))) (second-pair u v)

-- ---- filters

filter_swap : {X : Type 0} (p q : X → Bool) (xs : List X) → filter p (filter q xs) ≡ filter q (filter p xs)
filter_swap p q [] = refl
filter_swap {X} p q (x ∷ xs) = go (p x) (q x) refl refl (filter_swap p q xs)
  where
    go : (a b : Bool) → p x ≡ a → q x ≡ b → filter p (filter q xs) ≡ filter q (filter p xs)
        → filter p (cond (q x) (x ∷ filter q xs) (filter q xs)) ≡ filter q (cond (p x) (x ∷ filter p xs) (filter p xs))
    go true true e f h = grind arith
    go true false e f h = grind arith
    go false true e f h = grind arith
    go false false e f h = grind arith

filter_map_agree : {X Y : Type 0} (p : Y → Bool) (q : X → Bool) (g : X → Y) → ((x : X) → p (g x) ≡ q x) → (xs : List X) → filter p (map g xs) ≡ map g (filter q xs)
filter_map_agree p q g h [] = refl
filter_map_agree p q g h (x ∷ xs) =
    ap (λ b. cond b (g x ∷ filter p (map g xs)) (filter p (map g xs))) (h x)
    ∙ elim (q x) as (λ b. cond b (g x ∷ filter p (map g xs)) (filter p (map g xs)) ≡ map g (cond b (x ∷ filter q xs) (filter q xs))) [
      | true ↦ ap (λ ys. g x ∷ ys) (filter_map_agree p q g h xs)
      | false ↦ filter_map_agree p q g h xs
    ]

pub filter_map_none : {X Y : Type 0} (p : Y → Bool) (g : X → Y) → ((x : X) → p (g x) ≡ false) → (xs : List X) → filter p (map g xs) ≡ []
filter_map_none p g h [] = refl
filter_map_none p g h (x ∷ xs) = ap (λ b. cond b (g x ∷ filter p (map g xs)) (filter p (map g xs))) (h x) ∙ filter_map_none p g h xs

-- ---- rows without a second are the rows to the other members

module _ (x y : Value) where
  abbrev free : List Value → Bool
  free = fits_apart (pair x y)

  begun_free : (u v : Value) (s : List Value) → free (pair u v ∷ s) ≡ (is_other y v && free s)
  begun_free u v s = ap (λ b. b && free s) (seconds x y u v)

  free_extended : (u v : Value) (rows : List (List Value)) → filter free (extended fits_apart rows (pair u v)) ≡ cond (is_other y v) (extended fits_apart (filter free rows) (pair u v)) []
  free_extended u v rows = go (is_other y v) refl
    where
      go : (b : Bool) → is_other y v ≡ b → filter free (extended fits_apart rows (pair u v)) ≡ cond b (extended fits_apart (filter free rows) (pair u v)) []
      go true e =
          filter_map_agree free free (λ s. pair u v ∷ s) (λ s. begun_free u v s ∙ ap (λ b. b && free s) e) (filter (fits_apart (pair u v)) rows)
          ∙ ap (map (λ s. pair u v ∷ s)) (filter_swap free (fits_apart (pair u v)) rows)
      go false e = filter_map_none free (λ s. pair u v ∷ s) (λ s. begun_free u v s ∙ ap (λ b. b && free s) e) (filter (fits_apart (pair u v)) rows)

  free_extensions : (u : Value) (b : List Value) (rows : List (List Value)) → filter free (extensions fits_apart (pairs b u) rows) ≡ extensions fits_apart (pairs (others y b) u) (filter free rows)
  free_extensions u [] rows = refl
  free_extensions u (v ∷ b) rows =
      filter-append free (extended fits_apart rows (pair u v)) (extensions fits_apart (pairs b u) rows)
      ∙ ap (λ rs. rs ++ filter free (extensions fits_apart (pairs b u) rows)) (free_extended u v rows)
      ∙ ap (λ rs. cond (is_other y v) (extended fits_apart (filter free rows) (pair u v)) [] ++ rs) (free_extensions u b rows)
      ∙ elim (is_other y v) as (λ t. cond t (extended fits_apart (filter free rows) (pair u v)) []
      ++ extensions fits_apart (pairs (others y b) u) (filter free rows)
      ≡ extensions fits_apart (pairs (cond t (v ∷ others y b) (others y b)) u) (filter free rows)) [
        | true ↦ refl
        | false ↦ refl
      ]

  free_whole : (a b : List Value) → filter free (whole fits_apart (map (pairs b) a)) ≡ whole fits_apart (map (pairs (others y b)) a)
  free_whole [] b = refl
  free_whole (u ∷ a) b = free_extensions u b (whole fits_apart (map (pairs b) a)) ∙ ap (extensions fits_apart (pairs (others y b) u)) (free_whole a b)

  free_some : (a b : List Value) → filter free (some fits_apart (map (pairs b) a)) ≡ some fits_apart (map (pairs (others y b)) a)
  free_some [] b = refl
  free_some (u ∷ a) b =
      let rows = some fits_apart (map (pairs b) a) in
      filter-append free (extensions fits_apart (pairs b u) ([] ∷ rows)) rows
      ∙ ap (λ rs. rs ++ filter free rows) (free_extensions u b ([] ∷ rows))
      ∙ ap (λ rs. extensions fits_apart (pairs (others y b) u) ([] ∷ rs) ++ rs) (free_some a b)

-- ---- how many others there are

pub other_itself : (y : Value) → is_other y y ≡ false
other_itself y = ap (λ o. not (is_eq o)) (tied_itself total-law y)

other_less : (o : Ordering) → o ≡ Less → not (is_eq o) ≡ true
other_less Less e = refl
other_less Equal e = (cc)
other_less Greater e = (cc)

other_greater : (o : Ordering) → o ≡ Greater → not (is_eq o) ≡ true
other_greater Less e = (cc)
other_greater Equal e = (cc)
other_greater Greater e = refl

all_others : (y : Value) (b : List Value) → AllByRecursion (λ v. value_order y v ≡ Less) b → others y b ≡ b
all_others y [] h = refl
all_others y (v ∷ b) h = ap (λ t. cond t (v ∷ others y b) (others y b)) (other_less (value_order y v) h.0) ∙ ap (λ vs. v ∷ vs) (all_others y b h.1)

length_others : (y : Value) (b : List Value) → IsAscending b → IsMember y b → suc (length (others y b)) ≡ length b
length_others y [] h m = absurd m
length_others y (v ∷ b) h m = ⊎_elim
    (λ s.
    let same : is_other y v ≡ false = ap (is_other y) s ∙ other_itself y in
    let low : AllByRecursion (λ w. value_order y w ≡ Less) b = subst (λ u. AllByRecursion (λ w. value_order u w ≡ Less) b) s h.0 in
    ap suc (ap length (ap (λ t. cond t (v ∷ others y b) (others y b)) same ∙ all_others y b low)))
    (λ n.
    let up : value_order y v ≡ Greater = total-law.antisymm y v ∙ ap ordering_reverse (below_rest v b y h n) in
    ap suc (ap length (ap (λ t. cond t (v ∷ others y b) (others y b)) (other_greater (value_order y v) up)) ∙ length_others y b h.1 n))
    m

every_others : (P : Value → Type 0) (y : Value) (b : List Value) → AllByRecursion P b → AllByRecursion P (others y b)
every_others P y [] h = tt
every_others P y (v ∷ b) h = elim (is_other y v) as (λ t. AllByRecursion P (cond t (v ∷ others y b) (others y b))) [
  | true ↦ (h.0, every_others P y b h.1)
  | false ↦ every_others P y b h.1
]

ascending_others : (y : Value) (b : List Value) → IsAscending b → IsAscending (others y b)
ascending_others y [] h = tt
ascending_others y (v ∷ b) h = elim (is_other y v) as (λ t. IsAscending (cond t (v ∷ others y b) (others y b))) [
  | true ↦ (every_others (λ w. value_order v w ≡ Less) y b h.0, ascending_others y b h.1)
  | false ↦ ascending_others y b h.1
]

-- ---- counts

length_fitting : (x : Value) (b : List Value) (rows : List (List Value)) (n : ℕ)
    → ((y : Value) → IsMember y b → length (filter (fits_apart (pair x y)) rows) ≡ n) → length (extensions fits_apart (pairs b x) rows) ≡ length b * n
length_fitting x [] rows n h = grind arith
length_fitting x (y ∷ b) rows n h =
    let here : length (extended fits_apart rows (pair x y)) ≡ n = length-map (filter (fits_apart (pair x y)) rows) (λ r. pair x y ∷ r) ∙ h y (inl refl) in
    length-append (extended fits_apart rows (pair x y)) (extensions fits_apart (pairs b x) rows) ∙ ap (λ k. k + length (extensions fits_apart (pairs b x) rows)) here
    ∙ ap (λ k. n + k) (length_fitting x b rows n (λ u m. h u (inr m))) ∙ grind arith

one_less : (y : Value) (b : List Value) → IsAscending b → IsMember y b → length (others y b) ≡ length b - 1
one_less y b h m = let e = length_others y b h m in omega (arith, e)

pub length_injections : (a b : List Value) → IsAscending b → length (whole fits_apart (map (pairs b) a)) ≡ falling (length b) (length a)
length_injections [] b h = refl
length_injections (x ∷ a) b h =
    length_fitting x b (whole fits_apart (map (pairs b) a)) (falling (length b - 1) (length a)) (λ y m.
    ap length (free_whole x y a b) ∙ length_injections a (others y b) (ascending_others y b h) ∙ ap (λ n. falling n (length a)) (one_less y b h m))

pub length_partial_injections : (a b : List Value) → IsAscending b → length ([] ∷ some fits_apart (map (pairs b) a)) ≡ partial_injection_count (length a) (length b)
length_partial_injections [] b h = refl
length_partial_injections (x ∷ a) b h =
    let rows = some fits_apart (map (pairs b) a) in
    let here : length (extensions fits_apart (pairs b x) ([] ∷ rows)) ≡ length b * partial_injection_count (length a) (length b - 1) =
    length_fitting x b ([] ∷ rows) (partial_injection_count (length a) (length b - 1)) (λ y m.
    ap (λ rs. suc (length rs)) (free_some x y a b) ∙ length_partial_injections a (others y b) (ascending_others y b h) ∙ ap (partial_injection_count (length a)) (one_less y b h m)) in
    let rest : suc (length rows) ≡ partial_injection_count (length a) (length b) = length_partial_injections a b h in
    let all : length (extensions fits_apart (pairs b x) ([] ∷ rows) ++ rows)
    ≡ length (extensions fits_apart (pairs b x) ([] ∷ rows)) + length rows = length-append (extensions fits_apart (pairs b x) ([] ∷ rows)) rows in
    omega (arith, here, rest, all)
