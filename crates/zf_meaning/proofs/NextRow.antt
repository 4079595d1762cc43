-- One row after another: the first, and the next.
use Rattle.zf_meaning.proofs.Prelude.{◌++◌, ◌+◌, ◌<◌, ◌∙◌, ◌∷◌, ◌≡◌, ◌≤◌, ◌⊎◌, [], ap, append-nil, append_assoc, arith, drop, eqb, false, get_or, inl, inr, length, length-append, List, refl, replicate, set, subst, suc, sym, take, true, zero, ℕ, ⊎_elim, take-length, false≢true, or_cases, or_left, or_parts, or_right, nat_tests, drop-set, take-set, take-set-le, take_all, All-cons, All-head, All-replicate, All-tail, All, list_any, Bor, Value, headed, headed_from, seen, with_value_at, all_rows, ArePlaces, picked, rows_after}

-- ---- one range

from_next : (xs : List Value) (p : ℕ) (r : List Value) (rs : List (List Value)) → suc p < length xs → headed_from xs p [] (r ∷ rs) ≡ with_value_at xs (suc p) r ∷ headed_from xs (suc p) rs (r ∷ rs)
from_next [] p r rs h = absurd (omega arith)
from_next (x ∷ []) p r rs h = absurd (omega arith)
from_next (x ∷ y ∷ xs) zero r rs h = refl
from_next (x ∷ y ∷ xs) (suc p) r rs h = from_next (y ∷ xs) p r rs (omega arith)

from_past : (xs : List Value) (p : ℕ) (others : List (List Value)) → length xs ≤ suc p → headed_from xs p [] others ≡ []
from_past [] p others h = refl
from_past (x ∷ []) zero others h = refl
from_past (x ∷ y ∷ xs) zero others h = absurd (omega arith)
from_past (x ∷ xs) (suc p) others h = from_past xs p others (omega arith)

from_cons : (xs : List Value) (p : ℕ) (r : List Value) (rs others : List (List Value)) → p < length xs → headed_from xs p (r ∷ rs) others ≡ with_value_at xs p r ∷ headed_from xs p rs others
from_cons [] p r rs others h = absurd (omega arith)
from_cons (x ∷ xs) zero r rs others h = refl
from_cons (x ∷ xs) (suc p) r rs others h = from_cons xs p r rs others (omega arith)

-- ---- all ranges

-- the row of which all places are 0 is the first
pub all_rows-first : (lists : List (List Value)) (row : List ℕ) → ArePlaces lists row → All (λ place. place ≡ 0) row → all_rows lists ≡ picked lists row ∷ rows_after lists row
unfolding all_rows rows_after picked ArePlaces
all_rows-first [] [] r z = refl
all_rows-first [] (x ∷ row) r z = absurd r
all_rows-first (xs ∷ lists) [] r z = absurd r
all_rows-first ([] ∷ lists) (x ∷ row) r z = absurd (omega (arith, r.0))
all_rows-first ((y ∷ xs) ∷ lists) (x ∷ row) r z =
    let tail = all_rows-first lists row r.1 (All-tail (λ place. place ≡ 0) x row z) in
    let x-is : 0 ≡ x = sym (All-head (λ place. place ≡ 0) x row z) in
    let IsFirst : ℕ → Type 0 = λ u. all_rows ((y ∷ xs) ∷ lists) ≡ picked ((y ∷ xs) ∷ lists) (u ∷ row) ∷ rows_after ((y ∷ xs) ∷ lists) (u ∷ row) in
    subst IsFirst x-is (rw tail refl)

-- where the place at i can go up, and those after it are 0, the next row is the first of those ahead
pub rows_after-turned : (lists : List (List Value)) (row : List ℕ) (i next : ℕ) (d : List Value) → ArePlaces lists row → i < length row → get_or row i 0 + 1 ≡ next → next < length (get_or lists i d)
    → All (λ place. place ≡ 0) (drop (suc i) row) → rows_after lists (take (suc i) row) ≡ picked lists (set row i next) ∷ rows_after lists (set row i next)
unfolding rows_after picked ArePlaces
rows_after-turned [] [] i next d r h e lt z = absurd (omega arith)
rows_after-turned [] (x ∷ row) i next d r h e lt z = absurd r
rows_after-turned (xs ∷ lists) [] i next d r h e lt z = absurd r
rows_after-turned (xs ∷ lists) (x ∷ row) zero next d r h e lt z =
    let first = all_rows-first lists row r.1 z in
    let m : next ≡ suc x = omega (arith, e) in
    rw (m, first) (from_next xs x (picked lists row) (rows_after lists row) (omega (arith, lt, e)))
rows_after-turned (xs ∷ lists) (x ∷ row) (suc i) next d r h e lt z =
    ap (λ rows. headed_from xs x rows (all_rows lists)) (rows_after-turned lists row i next d r.1 (omega arith) e lt z)
    ∙ from_cons xs x (picked lists (set row i next)) (rows_after lists (set row i next)) (all_rows lists) r.0

-- where it cannot, nothing is ahead that begins with the places before it
pub rows_after-past : (lists : List (List Value)) (row : List ℕ) (i : ℕ) (d : List Value) → ArePlaces lists row → i < length row
    → length (get_or lists i d) ≤ get_or row i 0 + 1 → rows_after lists (take (suc i) row) ≡ rows_after lists (take i row)
unfolding rows_after ArePlaces
rows_after-past lists [] i d r h le = absurd (omega arith)
rows_after-past [] (x ∷ row) i d r h le = absurd r
rows_after-past (xs ∷ lists) (x ∷ row) zero d r h le = from_past xs x (all_rows lists) (omega arith)
rows_after-past (xs ∷ lists) (x ∷ row) (suc i) d r h le =
    ap (λ rows. headed_from xs x rows (all_rows lists)) (rows_after-past lists row i d r.1 (omega arith) le)

pub ArePlaces-set : (lists : List (List Value)) (row : List ℕ) (i place : ℕ) (d : List Value) → ArePlaces lists row → place < length (get_or lists i d) → ArePlaces lists (set row i place)
unfolding ArePlaces
ArePlaces-set [] [] i place d r h = tt
ArePlaces-set [] (x ∷ row) i place d r h = absurd r
ArePlaces-set (xs ∷ lists) [] i place d r h = absurd r
ArePlaces-set (xs ∷ lists) (x ∷ row) zero place d r h = (h, r.1)
ArePlaces-set (xs ∷ lists) (x ∷ row) (suc i) place d r h = (r.0, ArePlaces-set lists row i place d r.1 h)

pub ArePlaces-at : (lists : List (List Value)) (row : List ℕ) (i : ℕ) (d : List Value) → ArePlaces lists row → i < length row → get_or row i 0 < length (get_or lists i d)
unfolding ArePlaces
ArePlaces-at [] [] i d r h = absurd (omega arith)
ArePlaces-at [] (x ∷ row) i d r h = absurd r
ArePlaces-at (xs ∷ lists) [] i d r h = absurd r
ArePlaces-at (xs ∷ lists) (x ∷ row) zero d r h = r.0
ArePlaces-at (xs ∷ lists) (x ∷ row) (suc i) d r h = ArePlaces-at lists row i d r.1 (omega arith)

pub ArePlaces-length : (lists : List (List Value)) (row : List ℕ) → ArePlaces lists row → length lists ≡ length row
unfolding ArePlaces
ArePlaces-length [] [] r = refl
ArePlaces-length [] (x ∷ row) r = absurd r
ArePlaces-length (xs ∷ lists) [] r = absurd r
ArePlaces-length (xs ∷ lists) (x ∷ row) r = ap suc (ArePlaces-length lists row r.1)

-- ---- references

pub seen-length : {A : Type 0} (xs : List (Bor A)) → length (seen xs) ≡ length xs
seen-length [] = refl
seen-length (x ∷ xs) = ap suc (seen-length xs)

pub seen-at : {A : Type 0} (xs : List (Bor A)) (i : ℕ) (x : Bor A) (d : A) → i < length xs → x ≡ get_or xs i x → get_or (seen xs) i d ≡ x.now
seen-at [] i x d h e = absurd (omega arith)
seen-at (y ∷ xs) zero x d h e = ap (λ z. z.now) (sym e)
seen-at (y ∷ xs) (suc i) x d h e = seen-at xs i x d (omega arith) e

pub seen-append : {A : Type 0} (xs : List (Bor A)) (x : Bor A) → seen (xs ++ x ∷ []) ≡ seen xs ++ x.now ∷ []
seen-append [] x = refl
seen-append (y ∷ xs) x = ap (λ ys. y.now ∷ ys) (seen-append xs x)

-- ---- a place of the walk to the left, i above j

-- Above the front only what begins with its places is left, which are as they were; below it, what is after the places before i.
pub record Turns (lists : List (List Value)) (old row : List ℕ) (front i : ℕ) : Type 0 where
  pub above : front ≤ i → take front row ≡ take front old
  pub below : i ≤ front → rows_after lists (take i row) ≡ rows_after lists (take front old)

pub turns-begun : (lists : List (List Value)) (row : List ℕ) (front i : ℕ) → i ≡ length row → Turns lists row row front i
turns-begun lists row front i e = record {
  above = λ h. refl;
  below = λ h. ap (rows_after lists) (take_all i row (omega (arith, e)) ∙ sym (take_all front row (omega (arith, e))));
}

pub turned-here : (lists : List (List Value)) (old row : List ℕ) (front i j next : ℕ) (d : List Value) → ArePlaces lists row → i ≡ suc j → j < length row
    → Turns lists old row front i → All (λ place. place ≡ 0) (drop i row)
    → j < front → get_or row j 0 + 1 ≡ next → next < length (get_or lists j d) → rows_after lists (take front old) ≡ picked lists (set row j next) ∷ rows_after lists (set row j next)
turned-here lists old row front i j next d r e h t z f n lt =
    sym (t.below (omega (arith, e, f))) ∙ (rw e (rows_after-turned lists row j next d r h n lt (rw e at z)))

pub before_or : (j front : ℕ) → (j < front) ⊎ (front ≤ j)
before_or j zero = inr (omega arith)
before_or zero (suc front) = inl (omega arith)
before_or (suc j) (suc front) = ⊎_elim (λ h. inl (omega (arith, h))) (λ h. inr (omega (arith, h))) (before_or j front)

pub turns-past : (lists : List (List Value)) (old row : List ℕ) (front i j : ℕ) (d : List Value) → ArePlaces lists row → i ≡ suc j → j < length row
    → Turns lists old row front i → (front ≤ j) ⊎ (length (get_or lists j d) ≤ get_or row j 0 + 1)
    → Turns lists old (set row j 0) front j
turns-past lists old row front i j d r e h t p = record {
  above = λ k. take-set-le front row j 0 k ∙ t.above (omega (arith, e, k));
  below = λ k. ap (rows_after lists) (take-set row j 0) ∙ ⊎_elim
      (λ f. ⊎_elim (λ g. absurd (omega (arith, f, g))) (λ le. sym (rows_after-past lists row j d r h le) ∙ ap (λ n. rows_after lists (take n row)) (sym e) ∙ t.below (omega (arith, e, f))) p)
      (λ f. let same : j ≡ front = omega (arith, f, k) in ap (λ n. rows_after lists (take n row)) same ∙ ap (rows_after lists) (t.above (omega (arith, e, f)))) (before_or j front);
}

pub zeros-here : (row : List ℕ) (i j : ℕ) → i ≡ suc j → j < length row → All (λ place. place ≡ 0) (drop i row) → All (λ place. place ≡ 0) (drop j (set row j 0))
zeros-here row i j e h z =
    let m : i ≡ j + 1 = omega arith in
    rw (drop-set row j 0 h) (All-cons (λ place. place ≡ 0) 0 (drop (j + 1) row) refl (rw m at z))

pub none-here : (lists : List (List Value)) (old row : List ℕ) (front i : ℕ) → i ≤ 0 → Turns lists old row front i → rows_after lists (take front old) ≡ []
unfolding rows_after
none-here lists old row front zero h t = sym (t.below (omega arith))
none-here lists old row front (suc i) h t = absurd (omega arith)

-- ---- where a walk begins

pub zeros-ArePlaces : (lists : List (List Value)) → list_any (λ xs. eqb (length xs) 0) lists ≡ false → ArePlaces lists (replicate (length lists) 0)
unfolding ArePlaces
zeros-ArePlaces [] h = tt
zeros-ArePlaces (xs ∷ lists) h = let p = or_parts (eqb (length xs) 0) (list_any (λ xs. eqb (length xs) 0) lists) h in (grind (arith, nat_tests), zeros-ArePlaces lists p.1)

pub zeros-first : (lists : List (List Value)) → list_any (λ xs. eqb (length xs) 0) lists ≡ false
    → all_rows lists ≡ picked lists (replicate (length lists) 0) ∷ rows_after lists (replicate (length lists) 0)
zeros-first lists h = all_rows-first lists (replicate (length lists) 0) (zeros-ArePlaces lists h) (All-replicate (λ place. place ≡ 0) (length lists) 0 refl)

headed-none : (xs : List Value) → headed xs [] ≡ []
headed-none [] = refl
headed-none (x ∷ xs) = headed-none xs

-- there is no value in an empty list
pub all_rows-none : (lists : List (List Value)) → list_any (λ xs. eqb (length xs) 0) lists ≡ true → all_rows lists ≡ []
unfolding all_rows
all_rows-none [] h = absurd (false≢true h)
all_rows-none ([] ∷ lists) h = refl
all_rows-none ((x ∷ xs) ∷ lists) h = elim (or_cases (eqb (length (x ∷ xs)) 0) (list_any (λ ys. eqb (length ys) 0) lists) h) [
  | inl empty ↦ absurd (grind (arith, nat_tests))
  | inr later ↦ let none = all_rows-none lists later in rw none (headed-none (x ∷ xs))
]

-- ---- the values at places

value_more : (xs : List Value) (p : ℕ) (x : Value) (row : List Value) → p < length xs → x ≡ get_or xs p x → with_value_at xs p row ≡ x ∷ row
value_more [] p x row h e = absurd (omega arith)
value_more (y ∷ xs) zero x row h e = ap (λ z. z ∷ row) (sym e)
value_more (y ∷ xs) (suc p) x row h e = value_more xs p x row (omega arith) e

value_before : (xs : List Value) (p : ℕ) (row rest : List Value) → with_value_at xs p (row ++ rest) ≡ with_value_at xs p row ++ rest
value_before [] p row rest = refl
value_before (x ∷ xs) zero row rest = refl
value_before (x ∷ xs) (suc p) row rest = value_before xs p row rest

picked-suc : (lists : List (List Value)) (row : List ℕ) (i : ℕ) (x : Value) (d : List Value) → ArePlaces lists row → i < length row → x ≡ get_or (get_or lists i d) (get_or row i 0) x
    → picked lists (take (suc i) row) ≡ picked lists (take i row) ++ x ∷ []
unfolding picked ArePlaces
picked-suc [] [] i x d r h e = absurd (omega arith)
picked-suc [] (p ∷ row) i x d r h e = absurd r
picked-suc (xs ∷ lists) [] i x d r h e = absurd r
picked-suc (xs ∷ lists) (p ∷ row) zero x d r h e = value_more xs p x [] r.0 e
picked-suc (xs ∷ lists) (p ∷ row) (suc i) x d r h e =
    ap (with_value_at xs p) (picked-suc lists row i x d r.1 (omega arith) e) ∙ value_before xs p (picked lists (take i row)) (x ∷ [])

pub picked-more : (lists : List (List Value)) (row : List ℕ) (i : ℕ) (x : Value) (d : List Value) → ArePlaces lists row → i < length row → x ≡ get_or (get_or lists i d) (get_or row i 0) x
    → picked lists (take (i + 1) row) ≡ picked lists (take i row) ++ x ∷ []
picked-more lists row i x d r h e = let m : i + 1 ≡ suc i = omega arith in rw m (picked-suc lists row i x d r h e)

pub picked-none : (lists : List (List Value)) (bound : List Value) → bound ≡ bound ++ picked lists []
unfolding picked
picked-none lists bound = sym (append-nil bound)

-- a list without values is among these
pub empty-at : (lists : List (Bor (List Value))) (i : ℕ) (x : Bor (List Value)) → i < length lists → x ≡ get_or lists i x → eqb (length x.now) 0 ≡ true
    → true ≡ list_any (λ xs. eqb (length xs) 0) (seen lists)
empty-at [] i x h e t = absurd (omega arith)
empty-at (y ∷ lists) zero x h e t = sym (or_left (eqb (length y.now) 0) (list_any (λ xs. eqb (length xs) 0) (seen lists)) (ap (λ z. eqb (length z.now) 0) (sym e) ∙ t))
empty-at (y ∷ lists) (suc i) x h e t = sym (or_right (eqb (length y.now) 0) (list_any (λ xs. eqb (length xs) 0) (seen lists)) (sym (empty-at lists i x (omega arith) e t)))

pub first-places : (items lists : List (Bor (List Value))) (places : List ℕ) (n : ℕ) → lists ≡ items → places ≡ replicate n 0 → n ≡ length items
    → list_any (λ xs. eqb (length xs) 0) (seen items) ≡ false → ArePlaces (seen lists) places
first-places items lists places n e p l h = rw (e, p, l, ← (seen-length items)) (zeros-ArePlaces (seen items) h)

pub first-here : (items : List (Bor (List Value))) (places : List ℕ) (n : ℕ) → places ≡ replicate n 0 → n ≡ length items
    → list_any (λ xs. eqb (length xs) 0) (seen items) ≡ false → all_rows (seen items) ≡ picked (seen items) places ∷ rows_after (seen items) places
first-here items places n p l h = rw (p, l, ← (seen-length items)) (zeros-first (seen items) h)

value-length : (xs : List Value) (p : ℕ) (row : List Value) → p < length xs → length (with_value_at xs p row) ≡ suc (length row)
value-length [] p row h = absurd (omega arith)
value-length (x ∷ xs) zero row h = refl
value-length (x ∷ xs) (suc p) row h = value-length xs p row (omega arith)

pub picked-length : (lists : List (List Value)) (places : List ℕ) → ArePlaces lists places → length (picked lists places) ≡ length places
unfolding picked ArePlaces
picked-length [] [] r = refl
picked-length [] (p ∷ row) r = absurd r
picked-length (xs ∷ lists) [] r = absurd r
picked-length (xs ∷ lists) (p ∷ row) r = value-length xs p (picked lists row) r.0 ∙ ap suc (picked-length lists row r.1)

seen-take : {A : Type 0} (n : ℕ) (xs : List (Bor A)) → seen (take n xs) ≡ take n (seen xs)
seen-take zero [] = refl
seen-take (suc n) [] = refl
seen-take zero (x ∷ xs) = refl
seen-take (suc n) (x ∷ xs) = ap (λ ys. x.now ∷ ys) (seen-take n xs)

take-front : {A : Type 0} (xs ys : List A) → take (length xs) (xs ++ ys) ≡ xs
take-front [] [] = refl
take-front [] (y ∷ ys) = refl
take-front (x ∷ xs) ys = ap (λ zs. x ∷ zs) (take-front xs ys)

-- what is bound outside stays, and the row is the next
pub bound-anew : (lists : List (List Value)) (old new : List ℕ) (bound cut after : List (Bor Value)) (outside : List Value) (n : ℕ) → ArePlaces lists old
    → seen bound ≡ outside ++ picked lists old → n + length old ≡ length bound
    → cut ≡ take n bound → seen after ≡ seen cut ++ picked lists new → seen after ≡ outside ++ picked lists new
bound-anew lists old new bound cut after outside n r b l c a =
    let m : n ≡ length outside = omega (arith, l, ap length b, length-append outside (picked lists old), picked-length lists old r, seen-length bound) in
    a ∙ ap (λ xs. xs ++ picked lists new) (ap seen c ∙ seen-take n bound ∙ ap (take n) b ∙ ap (λ k. take k (outside ++ picked lists old)) m ∙ take-front outside (picked lists old))

-- fewer values are picked than are bound
pub places-bound : (lists : List (List Value)) (places : List ℕ) (bound : List (Bor Value)) (outside : List Value) → ArePlaces lists places
    → seen bound ≡ outside ++ picked lists places → length places ≤ length bound
places-bound lists places bound outside r b = omega (arith, ap length b, length-append outside (picked lists places), picked-length lists places r, seen-length bound)

pub bind-more : (lists : List (Bor (List Value))) (places : List ℕ) (i : ℕ) (list : Bor (List Value)) (x : Bor Value) (before now new : List (Bor Value))
    → ArePlaces (seen lists) places → i < length places → list ≡ get_or lists i list → x.now ≡ get_or list.now (get_or places i 0) x.now
    → seen now ≡ seen before ++ picked (seen lists) (take i places) → new ≡ now ++ x ∷ [] → seen new ≡ seen before ++ picked (seen lists) (take (i + 1) places)
bind-more lists places i list x before now new r h e v b n =
    let l : i < length lists = omega (arith, ArePlaces-length (seen lists) places r, seen-length lists) in
    let at = seen-at lists i list [] l e in
    let one = picked-more (seen lists) places i x.now [] r h (v ∙ sym (ap (λ xs. get_or xs (get_or places i 0) x.now) at)) in
    ap seen n ∙ seen-append now x ∙ ap (λ xs. xs ++ x.now ∷ []) b ∙ append_assoc (seen before) (picked (seen lists) (take i places)) (x.now ∷ []) ∙ ap (λ xs. seen before ++ xs) (sym one)

pub bound-first : (items lists : List (Bor (List Value))) (places read : List ℕ) (outside bound after : List (Bor Value)) → lists ≡ items → read ≡ places
    → bound ≡ outside → seen after ≡ seen bound ++ picked (seen lists) read
    → seen after ≡ seen outside ++ picked (seen items) places
bound-first items lists places read outside bound after l p b a =
    a ∙ ap (λ xs. seen xs ++ picked (seen lists) read) b ∙ ap (λ ls. seen outside ++ picked (seen ls) read) l ∙ ap (λ ps. seen outside ++ picked (seen items) ps) p

drop-all : {A : Type 0} (xs : List A) → drop (length xs) xs ≡ []
drop-all [] = refl
drop-all (x ∷ xs) = drop-all xs

-- no place is after the last
pub none-behind : (P : ℕ → Type 0) (xs : List ℕ) → All P (drop (length xs) xs)
none-behind P xs = subst (All P) (sym (drop-all xs)) (λ k d h. absurd (omega (arith, h)))

-- what is written over the whole of a list
pub written-over : {A : Type 0} (len : ℕ) (new items : List A) → length new ≡ length items → len ≡ length items → take len (new ++ drop (length new) items) ≡ new
written-over len new items n l =
    ap (λ k. take len (new ++ drop k items)) n ∙ ap (λ xs. take len (new ++ xs)) (drop-all items) ∙ ap (take len) (append-nil new) ∙ ap (λ k. take k new) (l ∙ sym n) ∙ take-length new
