-- A set that is left smaller and smaller, one member after another, as long as nothing is possible: what stays in it is minimal.
use Rattle.zf_cores.proofs.Prelude.{◌+◌, ◌<◌, ◌∷◌, ◌≡◌, ◌≤◌, arith, Bool, true, false, [], length, List, subst, suc, zero, sym, ℕ, slice_set, IsChosen, IsFewer, IsMinimal, length-replicate, length-set, replicate}
use Rattle.zf_cores.proofs.Choosing.{left_out, both_left_out, put_back, elsewhere, is_out, chosen_all}
use borrow.Author.Count.{below_more}

-- Nothing is possible with what is left; those before place i that are left are needed, and those from there on are all left.
pub record IsTrimmed (Possible : List Bool → Type 0) (n i : ℕ) (left : List Bool) : Type 0 where
  pub each : length left ≡ n
  pub impossible : Possible left → ⊥
  pub needed : (c : ℕ) → c < i → IsChosen left c → Possible (slice_set left c false)
  pub rest : (c : ℕ) → i ≤ c → c < n → IsChosen left c

module _ (Possible : List Bool → Type 0) (fewer : (small large : List Bool) → IsFewer small large → Possible large
    → Possible small) (n i : ℕ) (m : List Bool) (old : IsTrimmed Possible n i m) (within : i < n) where
  -- one that can be left out
  pub drops : (Possible (slice_set m i false) → ⊥) → IsTrimmed Possible n (i + 1) (slice_set m i false)
  drops never = record {
    each = subst (λ k. k ≡ n) (sym (length-set m i false)) old.each;
    impossible = never;
    needed = below_more (λ c. IsChosen (slice_set m i false) c → Possible (slice_set (slice_set m i false) c false)) i
        (λ c l h. fewer _ _ (both_left_out m i c) (old.needed c l ((left_out m i).chosen c h)))
        (λ h. absurd (is_out m i h));
    rest = λ c l k. elsewhere m i c (λ e. absurd (omega arith)) (old.rest c (omega arith) k);
  }

  -- one that is needed
  pub keeps : Possible (slice_set m i false) → IsTrimmed Possible n (i + 1) (slice_set (slice_set m i false) i true)
  keeps found = subst (IsTrimmed Possible n (i + 1)) (sym (put_back m i (old.rest i (omega arith) within))) (record {
    each = old.each;
    impossible = old.impossible;
    needed = below_more (λ c. IsChosen m c → Possible (slice_set m c false)) i old.needed (λ h. found);
    rest = λ c l k. old.rest c (omega arith) k;
  })

-- all of them, before any is left out
pub untouched : (Possible : List Bool → Type 0) (n : ℕ) → (Possible (replicate n true) → ⊥) → IsTrimmed Possible n 0 (replicate n true)
untouched Possible n never = record {
  each = length-replicate n true;
  impossible = never;
  needed = λ c l h. absurd (omega arith);
  rest = λ c l k. chosen_all n c k;
}

-- what is left when each was tried
pub all_tried : (Possible : List Bool → Type 0) (n i : ℕ) (m : List Bool) → IsTrimmed Possible n i m → n ≤ i → IsMinimal Possible n m
all_tried Possible n i m h l = record {
  each = h.each;
  impossible = h.impossible;
  needed = λ c is. h.needed c (before c is) is;
} where
  within : (m : List Bool) (c : ℕ) → IsChosen m c → c < length m
  within [] c is = absurd (cc)
  within (b ∷ m) zero is = omega arith
  within (b ∷ m) (suc c) is = omega (arith, within m c is)

  before : (c : ℕ) → IsChosen m c → c < i
  before c is = omega (arith, within m c is, h.each)
