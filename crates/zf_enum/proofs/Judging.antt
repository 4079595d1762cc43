-- The conjunct at a place, and its truth.
use Rattle.zf_enum.proofs.Prelude.{◌++◌, ◌+◌, ◌<◌, ◌∙◌, ◌∷◌, ◌≡◌, ◌≤◌, [], add-one, ap, ap₂, arith, get_or, length, List, map, refl, Some, subst, suc, sym, take, zero, ℕ, length-map, slice_get, Value, resolved_of, ResolvedTree, Resolved, Environment, in_row, IsTruth, due, due_of, HasTruth}
use Rattle.zf_value.specs.declared.value.Truth.{Truth}

pub at_place : (xs : List Resolved) (i : ℕ) (x : Resolved) → x ≡ get_or xs i x → i < length (map resolved_of xs) → slice_get (map resolved_of xs) i ≡ Some (resolved_of x)
at_place [] i x at l = absurd (omega arith)
at_place (y ∷ ys) zero x at l = ap (λ z. Some (resolved_of z)) (sym at)
at_place (y ∷ ys) (suc i) x at l = at_place ys i x at (omega arith)

pub has_truth : (e : Environment) (row : List Value) (xs : List Resolved) (i : ℕ) (x : Resolved) (t u : Truth) → x ≡ get_or xs i x
    → i < length (map resolved_of xs) → IsTruth (in_row e row) (resolved_of x) t → u ≡ t → HasTruth e row (slice_get (map resolved_of xs) i) u
has_truth e row xs i x t u at l h same =
    subst (λ p. HasTruth e row p u) (sym (at_place xs i x at l)) (subst (λ v. IsTruth (in_row e row) (resolved_of x) v) (sym same) h)

-- ---- how many components conjuncts need

front : (xs : List Resolved) (i : ℕ) (x : Resolved) → x ≡ get_or xs i x → i < length xs
    → map due (map resolved_of (take (suc i) xs)) ≡ map due (map resolved_of (take i xs)) ++ due (resolved_of x) ∷ []
front [] i x at l = absurd (omega arith)
front (y ∷ ys) zero x at l = ap (λ z. due (resolved_of z) ∷ []) (sym at)
front (y ∷ ys) (suc i) x at l = ap (λ ns. due (resolved_of y) ∷ ns) (front ys i x at (omega arith))

pub one_need_more : (ns : List ℕ) (xs : List Resolved) (i n : ℕ) (x : Resolved) → x ≡ get_or xs i x → i < length xs
    → ns ≡ map due (map resolved_of (take i xs)) → n ≡ due (resolved_of x) → ns ++ n ∷ [] ≡ map due (map resolved_of (take (i + 1) xs))
one_need_more ns xs i n x at l h e = rw add-one (ap₂ (λ (ms : List ℕ) (m : ℕ). ms ++ m ∷ []) h e ∙ sym (front xs i x at l))

whole : (xs : List Resolved) (i : ℕ) → length xs ≤ i → take i xs ≡ xs
whole [] zero l = refl
whole [] (suc i) l = refl
whole (x ∷ xs) zero l = absurd (omega arith)
whole (x ∷ xs) (suc i) l = ap (λ ys. x ∷ ys) (whole xs i (omega arith))

pub all_needs : (ns : List ℕ) (xs : List Resolved) (i : ℕ) → length xs ≤ i → ns ≡ map due (map resolved_of (take i xs)) → ns ≡ map due (map resolved_of xs)
all_needs ns xs i l h = h ∙ ap (λ ys. map due (map resolved_of ys)) (whole xs i l)

-- so many are there as conjuncts
pub as_many : (ns : List ℕ) (ts : List ResolvedTree) → ns ≡ map due ts → length ns ≡ length ts
as_many ns ts h = ap length h ∙ length-map ts due

need_of : (ts : List ResolvedTree) (i n : ℕ) → i < length ts → n ≡ get_or (map due ts) i n → n ≡ due_of (slice_get ts i)
need_of [] i n l at = absurd (omega arith)
need_of (t ∷ ts) zero n l at = at
need_of (t ∷ ts) (suc i) n l at = need_of ts i n (omega arith) at

pub need_at : (ns : List ℕ) (ts : List ResolvedTree) (i n : ℕ) → ns ≡ map due ts → i < length ts → n ≡ get_or ns i n → n ≡ due_of (slice_get ts i)
need_at ns ts i n h l at = need_of ts i n l (at ∙ ap (λ (ms : List ℕ). get_or ms i n) h)
