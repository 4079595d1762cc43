-- The outcomes of globals are worked out one after another.
use Rattle.zf_meaning.proofs.Prelude.{◌++◌, ◌+◌, ◌<◌, ◌∙◌, ◌∷◌, ◌≡◌, ◌⊎◌, [], ap, arith, inl, inr, length, length-append, List, refl, Some, subst, suc, sym, take, zero, ℕ, ⊎_elim, take-append_seam, take-append-le, slice_get, Outcome, Defined, before, Environment, AreWorkedOut, IsOutcomeOf, IsWorkedOut}

-- the globals before this place are worked out
pub record AreWorkedOutTo (n : ℕ) (e : Environment) : Type 0 where
  pub count : length e.outcomes ≡ n
  pub each : (i : ℕ) (d : Defined) → i < n → slice_get e.globals i ≡ Some d → IsWorkedOut e i d

pub none-worked_out : (e : Environment) → e.outcomes ≡ [] → AreWorkedOutTo 0 e
none-worked_out e h = record { count = ap length h; each = λ i d l g. absurd (omega arith) }

get_last : (xs : List Outcome) (o : Outcome) → slice_get (xs ++ o ∷ []) (length xs) ≡ Some o
get_last [] o = refl
get_last (x ∷ xs) o = get_last xs o

get_before : (xs ys : List Outcome) (i : ℕ) → i < length xs → slice_get (xs ++ ys) i ≡ slice_get xs i
get_before [] ys i h = absurd (omega arith)
get_before (x ∷ xs) ys zero h = refl
get_before (x ∷ xs) ys (suc i) h = get_before xs ys i (omega arith)

below_or_at : (i n : ℕ) → i < n + 1 → (i < n) ⊎ (i ≡ n)
below_or_at zero zero h = inr refl
below_or_at zero (suc n) h = inl (omega arith)
below_or_at (suc i) zero h = absurd (omega arith)
below_or_at (suc i) (suc n) h = ⊎_elim (λ l. inl (omega arith)) (λ e. inr (ap suc e)) (below_or_at i n (omega arith))

-- with one outcome more
abbrev pub further : Environment → Outcome → Environment
further e o = record { globals = e.globals; sizes = e.sizes; outcomes = e.outcomes ++ o ∷ []; numbers = e.numbers }

same_before : (e : Environment) (o : Outcome) (i : ℕ) → i < length e.outcomes → before (further e o) i ≡ before e i
same_before e o i l = ap (λ os. record { globals = e.globals; sizes = e.sizes; outcomes = os; numbers = e.numbers }) (take-append-le i e.outcomes (o ∷ []) (omega arith))

pub one-worked_out : (n : ℕ) (e : Environment) (o : Outcome) → AreWorkedOutTo n e
    → ((d : Defined) → slice_get e.globals n ≡ Some d → IsOutcomeOf e d.definition o) → AreWorkedOutTo (n + 1) (further e o)
one-worked_out n e o h f = record {
  count = length-append e.outcomes (o ∷ []) ∙ ap (λ k. k + 1) h.count;
  each = λ i d l g. ⊎_elim
      (λ b. let w = h.each i d b g in let k : i < length e.outcomes = omega (arith, h.count) in
      (w.0, get_before e.outcomes (o ∷ []) i k ∙ w.1, subst (λ x. IsOutcomeOf x d.definition w.0) (sym (same_before e o i k)) w.2))
      (λ a. let m : i ≡ length e.outcomes = a ∙ sym h.count in
      let all : before (further e o) i ≡ e = ap (λ os. record { globals = e.globals; sizes = e.sizes; outcomes = os; numbers = e.numbers })
      (ap (λ k. take k (e.outcomes ++ o ∷ [])) m ∙ take-append_seam e.outcomes (o ∷ [])) in
      (o, ap (slice_get (e.outcomes ++ o ∷ [])) m ∙ get_last e.outcomes o, subst (λ x. IsOutcomeOf x d.definition o) (sym all) (f d (ap (slice_get e.globals) (sym a) ∙ g))))
      (below_or_at i n l);
}

got_below : (xs : List Defined) (i : ℕ) (d : Defined) → slice_get xs i ≡ Some d → i < length xs
got_below [] i d h = absurd (cc)
got_below (x ∷ xs) zero d h = omega arith
got_below (x ∷ xs) (suc i) d h = omega (arith, got_below xs i d h)

pub all-worked_out : (n : ℕ) (e : Environment) → length e.globals ≡ n → AreWorkedOutTo n e → AreWorkedOut e
all-worked_out n e l h = (h.count ∙ sym l, λ i d g. h.each i d (omega (arith, got_below e.globals i d g, l)) g)
