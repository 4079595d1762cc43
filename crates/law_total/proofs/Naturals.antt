-- Natural numbers: what is decided of them, those below a bound, and the first with a property.
use Rattle.law_total.proofs.Prelude.{◌<◌, ◌≡◌, ◌≤◌, ◌⊎◌, arith, inl, inr, subst, suc, sym, zero, ℕ, ⊎_elim, cases_lt}
use Rattle.law_total.proofs.Listed.{Decided, Listed, listed_same, listed_none, listed_one, listed_either}

pub decided_lt : (m n : ℕ) → Decided (m < n)
decided_lt m n = elim (cases_lt m n) [ inl l ↦ inl l | inr l ↦ inr (λ k. omega arith) ]

pub decided_le : (m n : ℕ) → Decided (m ≤ n)
decided_le m n = elim (cases_lt n m) [ inl l ↦ inr (λ k. omega arith) | inr l ↦ inl l ]

below_or_at : (m n : ℕ) → m < suc n → (m < n) ⊎ (n ≡ m)
below_or_at m n l = elim (cases_lt m n) [ inl k ↦ inl k | inr k ↦ inr (omega arith) ]

pub listed_below : (k : ℕ) → Listed (λ (i : ℕ). i < k)
listed_below zero = listed_none (λ (i : ℕ). i < zero) (λ i l. omega arith)
listed_below (suc k) = listed_same (listed_either (listed_below k) (listed_one k)) (λ i. (λ h. ⊎_elim (λ l. omega arith) (λ e. omega arith) h, λ l. below_or_at i k l))

-- the first number of which Q holds, or none below k
pub first_or_none : (Q : ℕ → Type 0) → ((n : ℕ) → Decided (Q n)) → (k : ℕ) → ((n : ℕ) × Q n × ((m : ℕ) → m < n → Q m → ⊥)) ⊎ ((m : ℕ) → m < k → Q m → ⊥)
first_or_none Q d zero = inr (λ m l q. omega arith)
first_or_none Q d (suc k) = elim (first_or_none Q d k) [
  | inl h ↦ inl h
  | inr g ↦ ⊎_elim (λ q. inl (k, q, g)) (λ n. inr (λ m l q. ⊎_elim (λ h. g m h q) (λ e. n (subst Q (sym e) q)) (below_or_at m k l))) (d k)
]
