-- The rows that a walk passes: those that begin with the same values.
use Rattle.zf_meaning.proofs.Prelude.{◌++◌, ◌+◌, ◌<◌, ◌∙◌, ◌∷◌, ◌≡◌, ◌≤◌, ◌⊎◌, [], ap, append-nil, append_assoc, arith, get_or, inl, inr, length, List, map, MatchOption, None, Option, refl, set, slice_get, Some, subst, suc, sym, take, zero, ℕ, ⊎_elim, Value, AreOthers, Front, headed, headed_from, IsPassed, Others, Passing, Skips, with_value_at, all_rows, ArePlaces, picked, rows_after, same_Some, slice_get_read}
use Rattle.zf_meaning.proofs.AllRows.{IsAmong, AreApart, among-append, among-right}
use Rattle.zf_meaning.proofs.NextRow.{before_or}

map_append : (x : Value) (rows more : List (List Value)) → map (λ row. x ∷ row) (rows ++ more) ≡ map (λ row. x ∷ row) rows ++ map (λ row. x ∷ row) more
map_append x [] more = refl
map_append x (row ∷ rows) more = ap (λ rs. (x ∷ row) ∷ rs) (map_append x rows more)

-- the value at a place, before each of these rows
abbrev all_with : List Value → ℕ → List (List Value) → List (List Value)
all_with xs p [] = []
all_with xs p (row ∷ rows) = with_value_at xs p row ∷ all_with xs p rows

with_first : (x : Value) (xs : List Value) (rows : List (List Value)) → map (λ row. x ∷ row) rows ≡ all_with (x ∷ xs) zero rows
with_first x xs [] = refl
with_first x xs (row ∷ rows) = ap (λ rs. (x ∷ row) ∷ rs) (with_first x xs rows)

with_later : (x : Value) (xs : List Value) (p : ℕ) (rows : List (List Value)) → all_with xs p rows ≡ all_with (x ∷ xs) (suc p) rows
with_later x xs p [] = refl
with_later x xs p (row ∷ rows) = ap (λ rs. with_value_at xs p row ∷ rs) (with_later x xs p rows)

from_append : (xs : List Value) (p : ℕ) (rows more others : List (List Value)) → p < length xs → headed_from xs p (rows ++ more) others ≡ all_with xs p rows ++ headed_from xs p more others
from_append [] p rows more others h = absurd (omega arith)
from_append (x ∷ xs) zero rows more others h =
    ap (λ rs. rs ++ headed xs others) (map_append x rows more) ∙ append_assoc (map (λ row. x ∷ row) rows) (map (λ row. x ∷ row) more) (headed xs others)
    ∙ ap (λ rs. rs ++ (map (λ row. x ∷ row) more ++ headed xs others)) (with_first x xs rows)
from_append (x ∷ xs) (suc p) rows more others h =
    from_append xs p rows more others (omega arith) ∙ ap (λ rs. rs ++ headed_from xs p more others) (with_later x xs p rows)

-- a row of those that begin with the value at the place
of-with : (xs : List Value) (p : ℕ) (rows : List (List Value)) (vs : List Value) → IsAmong vs (all_with xs p rows) → (ws : List Value) × (with_value_at xs p ws ≡ vs) × IsAmong ws rows
of-with xs p [] vs h = absurd h
of-with xs p (row ∷ rows) vs h = ⊎_elim (λ e. (row, e, inl refl)) (λ m. let r = of-with xs p rows vs m in (r.0, r.1, inr r.2)) h

take_with : (xs : List Value) (p front : ℕ) (us vs : List Value) → p < length xs → take front us ≡ take front vs → take (suc front) (with_value_at xs p us) ≡ take (suc front) (with_value_at xs p vs)
take_with [] p front us vs h e = absurd (omega arith)
take_with (x ∷ xs) zero front us vs h e = ap (λ ws. x ∷ ws) e
take_with (x ∷ xs) (suc p) front us vs h e = take_with xs p front us vs (omega arith) e

take_none : {A : Type 0} (xs ys : List A) → take 0 xs ≡ take 0 ys
take_none [] [] = refl
take_none [] (y ∷ ys) = refl
take_none (x ∷ xs) [] = refl
take_none (x ∷ xs) (y ∷ ys) = refl

-- what is ahead: first the rows that begin with the same values, so many, and then those after all that do
record ArePassedFirst (lists : List (List Value)) (places : List ℕ) (front : ℕ) : Type 0 where
  passed : List (List Value)
  first : rows_after lists places ≡ passed ++ rows_after lists (take front places)
  alike : (vs : List Value) → IsAmong vs passed → take front vs ≡ take front (picked lists places)

none_before : (lists : List (List Value)) (places : List ℕ) → rows_after lists (take 0 places) ≡ []
unfolding rows_after
none_before [] [] = refl
none_before [] (p ∷ places) = refl
none_before (xs ∷ lists) [] = refl
none_before (xs ∷ lists) (p ∷ places) = refl

passed_first : (lists : List (List Value)) (places : List ℕ) (front : ℕ) → ArePlaces lists places → ArePassedFirst lists places front
unfolding rows_after picked ArePlaces
passed_first lists places zero r = record {
  passed = rows_after lists places;
  first = sym (append-nil (rows_after lists places)) ∙ ap (λ rows. rows_after lists places ++ rows) (sym (none_before lists places));
  alike = λ vs m. take_none vs (picked lists places);
}
passed_first [] [] (suc front) r = record { passed = []; first = refl; alike = λ vs m. absurd m }
passed_first [] (p ∷ places) (suc front) r = absurd r
passed_first (xs ∷ lists) [] (suc front) r = absurd r
passed_first (xs ∷ lists) (p ∷ places) (suc front) r =
    let h = passed_first lists places front r.1 in
    record {
      passed = all_with xs p h.passed;
      first = ap (λ rows. headed_from xs p rows (all_rows lists)) h.first ∙ from_append xs p h.passed (rows_after lists (take front places)) (all_rows lists) r.0;
      alike = λ vs m. let w = of-with xs p h.passed vs m in ap (take (suc front)) (sym w.1) ∙ take_with xs p front w.0 (picked lists places) r.0 (h.alike w.0 w.2);
    }

-- what begins with the same values, so many, is passed
pub front-skips : (lists : List (List Value)) (places : List ℕ) (front : ℕ) → ArePlaces lists places
    → Skips (Front front) (picked lists places) (rows_after lists places) (rows_after lists (take front places))
front-skips lists places front r = let h = passed_first lists places front r in record { passed = h.passed; first = h.first; each = h.alike }

-- ---- another value than is wanted

-- a row that begins with a value of the list, from the one place to the other
abbrev BeginsFrom : List Value → ℕ → ℕ → List Value → Type 0
BeginsFrom xs from to vs = (i : ℕ) × (from ≤ i) × (i ≤ to) × (slice_get vs 0 ≡ slice_get xs i)

record AreFromOthers (xs : List Value) (from to : ℕ) (rows others : List (List Value)) : Type 0 where
  passed : List (List Value)
  first : headed_from xs from rows others ≡ passed ++ headed_from xs to [] others
  each : (vs : List Value) → IsAmong vs passed → BeginsFrom xs from to vs

begins_with : (x : Value) (rows : List (List Value)) (vs : List Value) → IsAmong vs (map (λ row. x ∷ row) rows) → slice_get vs 0 ≡ Some x
begins_with x [] vs h = absurd h
begins_with x (row ∷ rows) vs h = ⊎_elim (λ e. ap (λ us. slice_get us 0) (sym e)) (λ m. begins_with x rows vs m) h

begins_later : (x : Value) (xs : List Value) (from to : ℕ) (vs : List Value) → BeginsFrom xs from to vs → BeginsFrom (x ∷ xs) (suc from) (suc to) vs
begins_later x xs from to vs h = (suc h.0, omega (arith, h.1), omega (arith, h.2), h.3)

from_others : (xs : List Value) (from to : ℕ) (rows others : List (List Value)) → from ≤ to → to < length xs → AreFromOthers xs from to rows others
from_others [] from to rows others h l = absurd (omega (arith, l))
from_others (x ∷ xs) zero zero rows others h l = record {
  passed = map (λ row. x ∷ row) rows;
  first = refl;
  each = λ vs m. (0, omega arith, omega arith, begins_with x rows vs m);
}
from_others (x ∷ []) zero (suc to) rows others h l = absurd (omega (arith, l))
from_others (x ∷ y ∷ xs) zero (suc to) rows others h l =
    let k = from_others (y ∷ xs) zero to others others (omega arith) (omega (arith, l)) in
    record {
      passed = map (λ row. x ∷ row) rows ++ k.passed;
      first = ap (λ us. map (λ row. x ∷ row) rows ++ us) k.first ∙ sym (append_assoc (map (λ row. x ∷ row) rows) k.passed (headed_from (y ∷ xs) to [] others));
      each = λ vs m. ⊎_elim (λ a. (0, omega arith, omega arith, begins_with x rows vs a))
          (λ b. let i = k.each vs b in (suc i.0, omega arith, omega (arith, i.2), i.3)) (among-append vs (map (λ row. x ∷ row) rows) k.passed m);
    }
from_others (x ∷ xs) (suc from) zero rows others h l = absurd (omega (arith, h))
from_others (x ∷ xs) (suc from) (suc to) rows others h l =
    let k = from_others xs from to rows others (omega (arith, h)) (omega (arith, l)) in
    record { passed = k.passed; first = k.first; each = λ vs m. begins_later x xs from to vs (k.each vs m) }

get_first : (xs : List Value) (p : ℕ) (row : List Value) → p < length xs → slice_get (with_value_at xs p row) 0 ≡ slice_get xs p
get_first [] p row h = absurd (omega (arith, h))
get_first (x ∷ xs) zero row h = refl
get_first (x ∷ xs) (suc p) row h = get_first xs p row (omega (arith, h))

get_later : (xs : List Value) (p i : ℕ) (row : List Value) → p < length xs → slice_get (with_value_at xs p row) (suc i) ≡ slice_get row i
get_later [] p i row h = absurd (omega (arith, h))
get_later (x ∷ xs) zero i row h = refl
get_later (x ∷ xs) (suc p) i row h = get_later xs p i row (omega (arith, h))

begins_passed : (xs : List Value) (from to : ℕ) (wanted : Value) (row vs : List Value) → from < length xs → AreOthers xs from to wanted
    → BeginsFrom xs from to vs → IsPassed (Others 0 wanted) (with_value_at xs from row) vs
begins_passed xs from to wanted row vs l o b = (
  take_none vs (with_value_at xs from row),
  ⊎_elim (λ before. inr (λ e. o b.0 before b.2 (sym b.3 ∙ e))) (λ le. let same : b.0
      ≡ from = omega (arith, le, b.1) in inl (b.3 ∙ ap (slice_get xs) same ∙ sym (get_first xs from row l))) (before_or from b.0),
)

later_passed : (xs : List Value) (p place : ℕ) (wanted : Value) (row us : List Value) → p < length xs → IsPassed (Others place wanted) row us
    → IsPassed (Others (suc place) wanted) (with_value_at xs p row) (with_value_at xs p us)
later_passed xs p place wanted row us l h = (
  take_with xs p place us row l h.0,
  ⊎_elim (λ e. inl (get_later xs p place us l ∙ e ∙ sym (get_later xs p place row l))) (λ n. inr (λ e. n (sym (get_later xs p place us l) ∙ e))) h.1,
)

-- where the values from the place that it is at up to another are others than is wanted, only rows with others are left out
pub others-skips : (lists : List (List Value)) (places : List ℕ) (place to : ℕ) (wanted : Value) (d : List Value) → ArePlaces lists places
    → place < length places → get_or places place 0 ≤ to → to < length (get_or lists place d)
    → AreOthers (get_or lists place d) (get_or places place 0) to wanted
    → Skips (Others place wanted) (picked lists places) (rows_after lists places) (rows_after lists (take (suc place) (set places place to)))
unfolding rows_after picked ArePlaces
others-skips lists [] place to wanted d r l le h o = absurd (omega (arith, l))
others-skips [] (p ∷ places) place to wanted d r l le h o = absurd r
others-skips (xs ∷ lists) (p ∷ places) zero to wanted d r l le h o =
    let k = from_others xs p to (rows_after lists places) (all_rows lists) le h in
    record {
      passed = k.passed;
      first = k.first ∙ ap (λ rows. k.passed ++ headed_from xs to rows (all_rows lists)) (sym (none_before lists places));
      each = λ vs m. begins_passed xs p to wanted (picked lists places) vs r.0 o (k.each vs m);
    }
others-skips (xs ∷ lists) (p ∷ places) (suc place) to wanted d r l le h o =
    let k = others-skips lists places place to wanted d r.1 (omega (arith, l)) le h o in
    record {
      passed = all_with xs p k.passed;
      first = ap (λ rows. headed_from xs p rows (all_rows lists)) k.first ∙ from_append xs p k.passed (rows_after lists (take (suc place) (set places place to))) (all_rows lists) r.0;
      each = λ vs m. let w = of-with xs p k.passed vs m in subst (IsPassed (Others (suc place) wanted) (with_value_at xs p (picked lists places))) w.1
          (later_passed xs p place wanted (picked lists places) w.0 r.0 (k.each w.0 w.2));
    }

pub none-other : (xs : List Value) (from : ℕ) (wanted : Value) → AreOthers xs from from wanted
none-other xs from wanted i a b e = absurd (omega (arith, a, b))

-- another value more
pub other-more : (xs : List Value) (from before place : ℕ) (x wanted : Value) → before + 1 ≡ place → place < length xs → x ≡ get_or xs place x
    → (x ≡ wanted → ⊥) → AreOthers xs from before wanted → AreOthers xs from place wanted
other-more xs from before place x wanted n l e other h i a b k =
    ⊎_elim (λ earlier. h i a (omega (arith, earlier, n)) k)
    (λ le. let same : i ≡ place = omega (arith, le, b) in other (same_Some x wanted (sym (slice_get_read xs (length xs) place x refl l e) ∙ ap (slice_get xs) (sym same) ∙ k))) (before_or i place)

-- ---- what is left

-- after what is passed is the next row, or none
pub skips-turned : (passing : Passing) (row next : List Value) (rows rest ahead : List (List Value)) (turned : Option ℕ) → Skips passing row rows rest
    → MatchOption turned (rest ≡ []) (λ anew. rest ≡ next ∷ ahead) → MatchOption turned (Skips passing row rows [])
    (λ anew. Skips passing row rows (next ∷ ahead))
skips-turned passing row next rows rest ahead None s e = subst (Skips passing row rows) e s
skips-turned passing row next rows rest ahead (Some anew) s e = subst (Skips passing row rows) e s

pub skip-nothing : (passing : Passing) (row : List Value) (rows rest : List (List Value)) → rows ≡ rest → Skips passing row rows rest
skip-nothing passing row rows rest e = record { passed = []; first = e; each = λ vs m. absurd m }

apart-right : (xs ys : List (List Value)) → AreApart (xs ++ ys) → AreApart ys
apart-right [] ys h = h
apart-right (x ∷ xs) ys h = apart-right xs ys h.1

-- a row ahead is passed, or left
pub passed-or-left : (passing : Passing) (row : List Value) (rows rest : List (List Value)) (vs : List Value) → Skips passing row rows rest → IsAmong vs rows
    → IsPassed passing row vs ⊎ IsAmong vs rest
passed-or-left passing row rows rest vs s m = ⊎_elim (λ a. inl (s.each vs a)) (λ a. inr a) (among-append vs s.passed rest (subst (IsAmong vs) s.first m))

pub left-ahead : (passing : Passing) (row : List Value) (rows rest : List (List Value)) (vs : List Value) → Skips passing row rows rest → IsAmong vs rest → IsAmong vs rows
left-ahead passing row rows rest vs s m = subst (IsAmong vs) (sym s.first) (among-right vs s.passed rest m)

pub left-apart : (passing : Passing) (row : List Value) (rows rest : List (List Value)) → Skips passing row rows rest → AreApart rows → AreApart rest
left-apart passing row rows rest s a = apart-right s.passed rest (subst AreApart s.first a)

longer : (xs ys : List (List Value)) → length ys ≤ length (xs ++ ys)
longer [] ys = omega arith
longer (x ∷ xs) ys = omega (arith, longer xs ys)

pub left-fewer : (passing : Passing) (row : List Value) (rows rest : List (List Value)) → Skips passing row rows rest → length rest ≤ length rows
left-fewer passing row rows rest s = subst (λ us. length rest ≤ length us) (sym s.first) (longer s.passed rest)
