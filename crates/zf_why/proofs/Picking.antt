-- What is picked one after another.
use Rattle.zf_why.proofs.Prelude.{◌++◌, ◌+◌, ◌<◌, ◌∷◌, ◌≡◌, ◌⊎◌, [], ◌≤◌, add-one, ap, arith, Bool, true, false, inl, inr, length, List, not, refl, Some, subst, suc, take, zero, ℕ, slice_get, ArePicked, IsChosen, IsLeft, HasChosen, OneOf, take_all, IfSome}
use Rattle.zf_why.proofs.Lists.{some_at}

one_of : (P Q : Type 0) (b : Bool) → OneOf P Q b → ((Some b ≡ Some true) × P) ⊎ ((Some b ≡ Some false) × Q)
one_of P Q true h = inl (refl, h)
one_of P Q false h = inr (refl, h)

pub none_picked : {A : Type 0} (P Q : ℕ → A → Type 0) (xs : List A) → ArePicked P Q (take 0 xs) []
none_picked P Q [] = record { each = refl; picked = λ i x at. absurd (cc) }
none_picked P Q (y ∷ ys) = record { each = refl; picked = λ i x at. absurd (cc) }

next : {A : Type 0} (P Q : ℕ → A → Type 0) (xs : List A) (i : ℕ) (x : A) (b : Bool) (m : List Bool) → slice_get xs i ≡ Some x → length m ≡ length (take i xs)
    → ((k : ℕ) (y : A) → slice_get (take i xs) k ≡ Some y → (IsChosen m k × P k y) ⊎ (IsLeft m k × Q k y)) → OneOf (P i x) (Q i x) b
    → (k : ℕ) (y : A) → slice_get (take (suc i) xs) k ≡ Some y → (IsChosen (m ++ b ∷ []) k × P k y) ⊎ (IsLeft (m ++ b ∷ []) k × Q k y)
next P Q [] i x b m at each old new k y is = absurd (cc)
next P Q (z ∷ xs) zero x b [] at each old new zero y is =
    let same : x ≡ y = cc in
    subst (λ w. ((Some b ≡ Some true) × P zero w) ⊎ ((Some b ≡ Some false) × Q zero w)) same (one_of (P zero x) (Q zero x) b new)
next P Q (z ∷ xs) zero x b [] at each old new (suc k) y is = absurd (cc)
next P Q (z ∷ xs) zero x b (f ∷ m) at each old new k y is = absurd (omega arith)
next P Q (z ∷ xs) (suc i) x b [] at each old new k y is = absurd (omega arith)
next P Q (z ∷ xs) (suc i) x b (f ∷ m) at each old new zero y is = old zero y is
next P Q (z ∷ xs) (suc i) x b (f ∷ m) at each old new (suc k) y is =
    next (λ j. P (suc j)) (λ j. Q (suc j)) xs i x b m at (omega arith) (λ j w here. old (suc j) w here) new k y is

longer : {A : Type 0} (xs : List A) (i : ℕ) (x : A) (b : Bool) (m : List Bool) → slice_get xs i ≡ Some x → length m ≡ length (take i xs) → length (m ++ b ∷ []) ≡ length (take (suc i) xs)
longer [] i x b m at each = absurd (cc)
longer (z ∷ xs) zero x b [] at each = refl
longer (z ∷ xs) zero x b (f ∷ m) at each = absurd (omega arith)
longer (z ∷ xs) (suc i) x b [] at each = absurd (omega arith)
longer (z ∷ xs) (suc i) x b (f ∷ m) at each = ap suc (longer xs i x b m at (omega arith))

pub one_picked : {A : Type 0} (P Q : ℕ → A → Type 0) (xs : List A) (i : ℕ) (x : A) (b : Bool) (m : List Bool) → slice_get xs i ≡ Some x → OneOf (P i x) (Q i x) b
    → ArePicked P Q (take i xs) m → ArePicked P Q (take (i + 1) xs) (m ++ b ∷ [])
one_picked P Q xs i x b m at new old = rw add-one (record { each = longer xs i x b m at old.each; picked = next P Q xs i x b m at old.each old.picked new })

-- where none is chosen all are left
pub all_left : {A : Type 0} (P Q : ℕ → A → Type 0) (xs : List A) (m : List Bool) → ArePicked P Q xs m → (HasChosen m → ⊥) → (i : ℕ) (x : A) → slice_get xs i ≡ Some x → Q i x
all_left P Q xs m h none i x at = elim (h.picked i x at) [ inl (is, p) ↦ absurd (none (i, is)) | inr (is, q) ↦ q ]

-- P and Q exchanged
pub turned : (P Q : Type 0) (b : Bool) → OneOf Q P b → OneOf P Q (not b)
turned P Q true h = h
turned P Q false h = h

pub next_picked : {A : Type 0} (P Q : ℕ → A → Type 0) (xs : List A) (i : ℕ) (b : Bool) (m : List Bool) → i < length xs → IfSome (slice_get xs i) (λ x. OneOf (Q i x) (P i x) b)
    → ArePicked P Q (take i xs) m → ArePicked P Q (take (i + 1) xs) (m ++ not b ∷ [])
next_picked P Q xs i b m l h old =
    let x = some_at xs i l in
    let here : OneOf (Q i x.0) (P i x.0) b = rw x.1 at h in
    one_picked P Q xs i x.0 (not b) m x.1 (turned (P i x.0) (Q i x.0) b here) old

pub picked_all : {A : Type 0} (P Q : ℕ → A → Type 0) (xs : List A) (i : ℕ) (m : List Bool) → length xs ≤ i → ArePicked P Q (take i xs) m → ArePicked P Q xs m
picked_all P Q xs i m l h = subst (λ ys. ArePicked P Q ys m) (take_all i xs l) h
