-- The places that have the key which is wanted.
use Rattle.zf_plan.proofs.Prelude.{◌++◌, ◌+◌, ◌<◌, ◌≡◌, ◌∙◌, ◌∷◌, [], arith, Contains, Conjuncts, get_or, length, length-append, List, slice_get-get_or, slice_get_within, None, ℕ, get_or-append_seam, get_or_append_left, AreKeys, IsKeyOf, StaysIn}
use Rattle.zf_plan.specs.Choices.{Leaves}

-- ---- one place more

pub stays-push : (xs : List ℕ) (x : ℕ) → StaysIn xs (xs ++ x ∷ [])
stays-push xs x i (k, l, e) = (k, omega (arith, l, length-append xs (x ∷ [])), get_or_append_left xs (x ∷ []) i k l ∙ e)

pub has-push : (xs : List ℕ) (x : ℕ) → Contains (xs ++ x ∷ []) x
has-push xs x = (length xs, omega (arith, length-append xs (x ∷ [])), get_or-append_seam xs x [] x)

-- ---- the places of a key

-- what has another key than is wanted is left out
pub keys-leave : {V : Type 0} (l : Conjuncts V) (is_key : V → ℕ → Type 0) (leaf : ℕ) (ranges : List (List V)) (places : List ℕ) (keys left : List ℕ) (n : ℕ)
    → AreKeys is_key (get_or ranges (length places) []) keys → IsKeyOf l is_key leaf ranges places None n → l.due leaf ≡ length places + 1
    → length keys ≡ length (get_or ranges (length places) [])
    → ((i : ℕ) → i < length keys → get_or keys i 0 ≡ n → Contains left i) → Leaves l leaf ranges places left
keys-leave l is_key leaf ranges places keys left n are wanted due long all i v more at out row =
    let near : i < length keys = omega (arith, long, slice_get_within (get_or ranges (length places) []) i v at) in
    wanted due v (get_or keys i 0) more (are i (get_or keys i 0) v at (slice_get-get_or keys i 0 near)) (λ e. out (all i near e)) row
