-- What trees leave to the next component, and the next value that is tried.
use Rattle.zf_plan.proofs.Prelude.{◌<◌, ◌∙◌, ◌∷◌, ◌≡◌, ◌≤◌, arith, get_or, length, List, subst, sym, ℕ, get_or_default, Contains, Conjuncts, False, Narrows, IsSettled, either, Tree, StaysIn}

module _ {V : Type 0} (l : Conjuncts V) (ranges : List (List V)) (row range : List V) where
  -- sides
  pub narrows-either : (a b : Tree) (xs ys : List ℕ) → StaysIn xs ys → Narrows l a ranges row range xs → Narrows l b ranges row range ys → Narrows l (either a b) ranges row range ys
  narrows-either a b xs ys stay h k i v more s out is = (h i v more s (λ c. out (stay i c)) is, k i v more s out is)

  -- a tree that is False leaves nothing
  pub narrows-false : (a : Tree) (xs : List ℕ) → IsSettled l a row False → Narrows l a ranges row range xs
  narrows-false a xs h i v more s out is = h (v ∷ more)

  pub narrows-as : (a b : Tree) (xs : List ℕ) → b ≡ a → Narrows l a ranges row range xs → Narrows l b ranges row range xs
  narrows-as a b xs e h = subst (λ t. Narrows l t ranges row range xs) (sym e) h

-- the least of the places from one on has none of them before it
pub least-skips : (places : List ℕ) (from least : ℕ) → ((j : ℕ) → j < length places → from ≤ get_or places j 0 → least ≤ get_or places j 0) → (i : ℕ) → from ≤ i → i < least → Contains places i → ⊥
least-skips places from least h i up low (k, inside, e) =
    let at : get_or places k 0 ≡ i = get_or_default places k 0 i inside ∙ e in
    let over : least ≤ get_or places k 0 = h k inside (omega arith) in
    omega arith
