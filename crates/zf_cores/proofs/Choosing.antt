-- Choices, one of which is left out: which places are chosen then, and what is chosen.
use Rattle.zf_cores.proofs.Prelude.{◌++◌, ◌+◌, ◌<◌, ◌≤◌, ◌∙◌, ◌∷◌, ◌≡◌, [], add-one, ap, append-nil, append_assoc, arith, drop, map, sym, AllByRecursion, Bool, true, false, length, List, refl, Some, suc, zero, ℕ, slice_get, slice_set, chosen_of, IsChosen, IsFewer, drop_all, replicate}

-- ---- a place that is left out

pub left_out : (m : List Bool) (i : ℕ) → IsFewer (slice_set m i false) m
left_out m i = record { chosen = λ c h. of m i c h } where
  of : (m : List Bool) (i c : ℕ) → IsChosen (slice_set m i false) c → IsChosen m c
  of [] i c h = h
  of (x ∷ m) zero zero h = absurd (cc)
  of (x ∷ m) zero (suc c) h = h
  of (x ∷ m) (suc i) zero h = h
  of (x ∷ m) (suc i) (suc c) h = of m i c h

pub is_out : (m : List Bool) (i : ℕ) → IsChosen (slice_set m i false) i → ⊥
is_out [] i h = cc
is_out (x ∷ m) zero h = cc
is_out (x ∷ m) (suc i) h = is_out m i h

-- two that are left out, and the second alone
pub both_left_out : (m : List Bool) (i c : ℕ) → IsFewer (slice_set (slice_set m i false) c false) (slice_set m c false)
both_left_out m i c = record { chosen = λ d h. of m i c d h } where
  of : (m : List Bool) (i c d : ℕ) → IsChosen (slice_set (slice_set m i false) c false) d → IsChosen (slice_set m c false) d
  of [] i c d h = h
  of (x ∷ m) zero zero d h = h
  of (x ∷ m) zero (suc c) zero h = absurd (cc)
  of (x ∷ m) zero (suc c) (suc d) h = h
  of (x ∷ m) (suc i) zero zero h = h
  of (x ∷ m) (suc i) zero (suc d) h = (left_out m i).chosen d h
  of (x ∷ m) (suc i) (suc c) zero h = h
  of (x ∷ m) (suc i) (suc c) (suc d) h = of m i c d h

pub put_back : (m : List Bool) (i : ℕ) → IsChosen m i → slice_set (slice_set m i false) i true ≡ m
put_back [] i h = refl
put_back (x ∷ m) zero h = let e : true ≡ x = cc in ap (λ b. b ∷ m) e
put_back (x ∷ m) (suc i) h = ap (λ n. x ∷ n) (put_back m i h)

pub elsewhere : (m : List Bool) (i c : ℕ) → (i ≡ c → ⊥) → IsChosen m c → IsChosen (slice_set m i false) c
elsewhere [] i c n h = h
elsewhere (x ∷ m) zero zero n h = absurd (n refl)
elsewhere (x ∷ m) zero (suc c) n h = h
elsewhere (x ∷ m) (suc i) zero n h = h
elsewhere (x ∷ m) (suc i) (suc c) n h = elsewhere m i c (λ e. n (ap suc e)) h

-- ---- what is chosen

module _ {A : Type 0} (P : A → Type 0) where
  tail_of : (p : A) (ps : List A) (b : Bool) (m : List Bool) → AllByRecursion P (chosen_of (p ∷ ps) (b ∷ m)) → AllByRecursion P (chosen_of ps m)
  tail_of p ps true m h = h.1
  tail_of p ps false m h = h

  all_of : (ps : List A) (small large : List Bool) → ((c : ℕ) → IsChosen small c → IsChosen large c) → AllByRecursion P (chosen_of ps large) → AllByRecursion P (chosen_of ps small)
  all_of [] small large f h = tt
  all_of (p ∷ ps) [] large f h = tt
  all_of (p ∷ ps) (true ∷ small) [] f h = absurd (let e = f zero refl in cc)
  all_of (p ∷ ps) (true ∷ small) (false ∷ large) f h = absurd (let e = f zero refl in cc)
  all_of (p ∷ ps) (true ∷ small) (true ∷ large) f h = (h.0, all_of ps small large (λ c k. f (suc c) k) h.1)
  all_of (p ∷ ps) (false ∷ small) [] f h = all_of ps small [] (λ c k. absurd (let e = f (suc c) k in cc)) (none ps) where
    none : (ps : List A) → AllByRecursion P (chosen_of ps [])
    none [] = tt
    none (p ∷ ps) = tt
  all_of (p ∷ ps) (false ∷ small) (b ∷ large) f h = all_of ps small large (λ c k. f (suc c) k) (tail_of p ps b large h)

  pub beside : (given ps qs : List A) → (AllByRecursion P ps → AllByRecursion P qs) → AllByRecursion P (given ++ ps) → AllByRecursion P (given ++ qs)
  beside [] ps qs f h = f h
  beside (g ∷ given) ps qs f h = (h.0, beside given ps qs f h.1)

  pub all_fewer : (given ps : List A) (small large : List Bool) → IsFewer small large → AllByRecursion P (given ++ chosen_of ps large) → AllByRecursion P (given ++ chosen_of ps small)
  all_fewer given ps small large f h = beside given (chosen_of ps large) (chosen_of ps small) (all_of ps small large f.chosen) h

  each_chosen : (ps : List A) (m : List Bool) → AllByRecursion P ps → AllByRecursion P (chosen_of ps m)
  each_chosen [] m h = tt
  each_chosen (p ∷ ps) [] h = tt
  each_chosen (p ∷ ps) (true ∷ m) h = (h.0, each_chosen ps m h.1)
  each_chosen (p ∷ ps) (false ∷ m) h = each_chosen ps m h.1

  pub all_chosen_of : (given ps : List A) (m : List Bool) → AllByRecursion P (given ++ ps) → AllByRecursion P (given ++ chosen_of ps m)
  all_chosen_of given ps m h = beside given ps (chosen_of ps m) (each_chosen ps m) h

-- what is chosen, seen through a function
pub seen_chosen : {A B : Type 0} (f : A → B) (xs : List A) (m : List Bool) → map f (chosen_of xs m) ≡ chosen_of (map f xs) m
seen_chosen f [] m = refl
seen_chosen f (x ∷ xs) [] = refl
seen_chosen f (x ∷ xs) (true ∷ m) = ap (λ ys. f x ∷ ys) (seen_chosen f xs m)
seen_chosen f (x ∷ xs) (false ∷ m) = seen_chosen f xs m

-- ---- one after another

one_more : {A : Type 0} (xs : List A) (m : List Bool) (i : ℕ) (x : A) (b : Bool) → slice_get xs i ≡ Some x → slice_get m i ≡ Some b
    → chosen_of (drop i xs) (drop i m) ≡ chosen_of (x ∷ drop (suc i) xs) (b ∷ drop (suc i) m)
one_more [] m i x b at is = absurd (cc)
one_more (y ∷ ys) [] i x b at is = absurd (cc)
one_more (y ∷ ys) (c ∷ m) zero x b at is = let e : y ≡ x = cc in let f : c ≡ b = cc in (cc)
one_more (y ∷ ys) (c ∷ m) (suc i) x b at is = one_more ys m i x b at is

pub goes_in : {A : Type 0} (whole part xs : List A) (m : List Bool) (i : ℕ) (x : A) → slice_get xs i ≡ Some x → IsChosen m i
    → whole ≡ part ++ chosen_of (drop i xs) (drop i m) → whole ≡ (part ++ x ∷ []) ++ chosen_of (drop (i + 1) xs) (drop (i + 1) m)
goes_in whole part xs m i x at is same =
    rw add-one (same ∙ ap (λ ys. part ++ ys) (one_more xs m i x true at is) ∙ sym (append_assoc part (x ∷ []) (chosen_of (drop (suc i) xs) (drop (suc i) m))))

pub stays_out : {A : Type 0} (whole part xs : List A) (m : List Bool) (i : ℕ) (x : A) → slice_get xs i ≡ Some x → slice_get m i ≡ Some false
    → whole ≡ part ++ chosen_of (drop i xs) (drop i m) → whole ≡ part ++ chosen_of (drop (i + 1) xs) (drop (i + 1) m)
stays_out whole part xs m i x at is same = rw add-one (same ∙ ap (λ ys. part ++ ys) (one_more xs m i x false at is))

pub none_further : {A : Type 0} (part xs : List A) (m : List Bool) (i : ℕ) → length xs ≤ i → part ++ chosen_of (drop i xs) (drop i m) ≡ part
none_further part xs m i l = ap (λ ys. part ++ chosen_of ys (drop i m)) (drop_all i xs l) ∙ append-nil part

-- ---- all of them

pub all_chosen : {A : Type 0} (ps : List A) → chosen_of ps (replicate (length ps) true) ≡ ps
all_chosen [] = refl
all_chosen (p ∷ ps) = ap (λ qs. p ∷ qs) (all_chosen ps)

pub chosen_all : (n c : ℕ) → c < n → IsChosen (replicate n true) c
chosen_all zero c l = absurd (omega arith)
chosen_all (suc n) zero l = refl
chosen_all (suc n) (suc c) l = chosen_all n c (omega arith)
