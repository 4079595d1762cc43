-- The values of a range where one may be held.
use Rattle.zf_ranges.proofs.Prelude.{◌∷◌, ◌≡◌, [], Err, IfOk, inl, List, Ok, Result, Some, subst, sym, ⊎_elim, IsMember, Value, DeclaredSets, Environment, IsInSets, IsAllWith, NarrowsAll, IsHeld, IsAscending}
use Rattle.zf_ranges.proofs.Listing.{lists_same}

pub ascending_alone : (w : Value) (ys : List Value) → ys ≡ w ∷ [] → IsAscending ys
ascending_alone w ys is = subst IsAscending (sym is) (tt, tt)

module _ (e : Environment) (ds : DeclaredSets) where
  -- this one is held, and is a member of the declared sets or not
  pub of_one : (w : Value) (ys xs : List Value) → ys ≡ w ∷ [] → NarrowsAll e ds ys xs → IsAllWith e ds (Some w) xs
  of_one w ys xs is h =
      let here = subst (λ zs. NarrowsAll e ds zs xs) is h in (
        lists_same (λ v. IsMember v (w ∷ []) × IsInSets e ds v) (λ v. IsInSets e ds v × IsHeld (Some w) v) xs
            (λ v. (λ k. (k.1, ⊎_elim (λ (s : w ≡ v). sym s) (λ n. absurd n) k.0), λ k. (inl (sym k.1), k.0))) here.0,
        here.1,
      )

  pub one_ok : {X E : Type 0} (items : X → List Value) (r : Result X E) (w : Value) (ys : List Value) → ys ≡ w ∷ []
      → IfOk r (λ x. NarrowsAll e ds ys (items x)) → IfOk r (λ x. IsAllWith e ds (Some w) (items x))
  one_ok items (Ok x) w ys is h = of_one w ys (items x) is h
  one_ok items (Err f) w ys is h = tt
