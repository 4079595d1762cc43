-- A term that uses the bound components alone means the same in every longer row.
use Rattle.zf_meaning.proofs.Prelude.{◌++◌, ◌<◌, ◌∷◌, ◌≡◌, [], arith, length, List, refl, subst, suc, sym, zero, ℕ, slice_get, Reference, Component, Global, Local, Outcome, Truth, Value, onto, ResolvedTree, Context, with_further, HasOutcome, IsTruth, AreBelow, IsBelow}
use Rattle.zf_meaning.proofs.SameRows.{AgreeAt, Agree, same_outcome, same_truth}

same_place : (xs vs : List Value) (i : ℕ) → i < length xs → slice_get xs i ≡ slice_get (xs ++ vs) i
same_place [] vs i h = absurd (omega arith)
same_place (x ∷ xs) vs zero h = refl
same_place (x ∷ xs) vs (suc i) h = same_place xs vs i (omega arith)

agree_at : (xs vs : List Value) (r : Reference) → IsBelow (length xs) r → AgreeAt xs (xs ++ vs) r
agree_at xs vs (Component i) h = same_place xs vs i h
agree_at xs vs (Local i) h = tt
agree_at xs vs (Global i) h = tt

-- a longer row has the same first components
agree_below : (xs vs : List Value) (rs : List Reference) → AreBelow (length xs) rs → Agree xs (xs ++ vs) rs
agree_below xs vs [] h = tt
agree_below xs vs (r ∷ rs) h = (agree_at xs vs r h.0, agree_below xs vs rs h.1)

pub outcomes_stay : (c : Context) (vs : List Value) (t : ResolvedTree) (o : Outcome) → AreBelow (length c.row) (onto [] t)
    → (HasOutcome c t o → HasOutcome (with_further c vs) t o) × (HasOutcome (with_further c vs) t o → HasOutcome c t o)
outcomes_stay c vs t o h = let e = same_outcome c (c.row ++ vs) [] t (agree_below c.row vs (onto [] t) h) o in (λ x. subst (λ X. X) e x, λ x. subst (λ X. X) (sym e) x)

pub truths_stay : (c : Context) (vs : List Value) (t : ResolvedTree) (p : Truth) → AreBelow (length c.row) (onto [] t)
    → (IsTruth c t p → IsTruth (with_further c vs) t p) × (IsTruth (with_further c vs) t p → IsTruth c t p)
truths_stay c vs t p h = let e = same_truth c (c.row ++ vs) [] t (agree_below c.row vs (onto [] t) h) p in (λ x. subst (λ X. X) e x, λ x. subst (λ X. X) (sym e) x)
