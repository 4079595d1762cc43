-- The subsets of a set are the rows that take some of its members.
use Rattle.zf_families.proofs.Prelude.{◌+◌, ◌^◌, ◌↔◌, ◌∙◌, ◌∷◌, ◌≡◌, ◌⊎◌, [], inl, inr, length, Less, List, ltb, map, min, refl, Result, subst, suc, sym, ℕ, ⊎_elim, IfOk, AllocError, every_from, not_below_itself, IsSubset, IsPower, IsAscending, value_order, AreAmong, SET_MAX, SetOf, Value, Outcome, Is, Out, AreSets, fits_any, singles, some, AllByRecursion}
use Rattle.zf_families.proofs.Counts.{length_some, sizes_same}
use Rattle.zf_families.proofs.Lists.{Each, each_map}
use Rattle.zf_families.proofs.InOrder.{IsLadder, ordered_some}
use Rattle.zf_families.proofs.Told.{TellsOut, are_sets, ascends, Tells, set_order, out_by_size, built_result}
use Rattle.zf_families.proofs.Chosen.{Takes, in_some}
use Rattle.zf_families.proofs.Comparisons.{not_both, below_rest}

abbrev Chooses : List Value → List Value → Type 0
Chooses a r = IsAscending r × AreAmong r a

rest : (x : Value) (xs : List Value) → IsAscending (x ∷ xs) → IsAscending xs
rest x xs h = h.1

none : (r : List Value) → Chooses [] r ↔ ([] ≡ r)
unfolding AreAmong
none [] = (λ h. refl, λ e. (tt, λ z m. m))
none (p ∷ s) = (λ h. absurd (h.1 p (inl refl)), λ e. (cc))

step_to : (x : Value) (xs r : List Value) → IsAscending (x ∷ xs) → Chooses (x ∷ xs) r → Takes fits_any (x ∷ []) (Chooses xs) r ⊎ Chooses xs r
unfolding AreAmong
step_to x xs [] g h = inr (tt, λ z m. absurd m)
step_to x xs (p ∷ s) g h = ⊎_elim
    (λ e. inl (p, s, refl, inl e, (h.0.1, λ z m. ⊎_elim (λ k. absurd (not_below_itself p (subst (λ u. value_order p u ≡ Less) (sym k ∙ e) (below_rest p s z h.0 m)))) (λ n. n) (h.1 z (inr m))), refl))
    (λ n. let low = below_rest x xs p g n in
    inr (
      h.0,
      λ z m. ⊎_elim
          (λ k. absurd (⊎_elim
          (λ e. not_below_itself x (subst (λ u. value_order x u ≡ Less) (e ∙ sym k) low))
          (λ l. not_both x p low (subst (λ u. value_order p u ≡ Less) (sym k) (below_rest p s z h.0 l)))
          m))
          (λ k. k) (h.1 z m),
    ))
    (h.1 p (inl refl))

step_from : (x : Value) (xs r : List Value) → IsAscending (x ∷ xs) → Takes fits_any (x ∷ []) (Chooses xs) r ⊎ Chooses xs r → Chooses (x ∷ xs) r
unfolding AreAmong
step_from x xs r g (inl t) =
    let same : x ≡ t.0 = ⊎_elim (λ e. e) (λ n. absurd n) t.3 in
    subst (Chooses (x ∷ xs)) t.2 (
      (every_from (λ z. value_order t.0 z ≡ Less) t.1 (λ z m. subst (λ u. value_order u z ≡ Less) same (below_rest x xs z g (t.4.1 z m))), t.4.0),
      λ z m. ⊎_elim (λ e. inl (same ∙ e)) (λ n. inr (t.4.1 z n)) m,
    )
step_from x xs r g (inr h) = (h.0, λ z m. inr (h.1 z m))

ladder : (a : List Value) → IsAscending a → IsLadder (singles a)
ladder [] h = tt
ladder (x ∷ a) h = ((tt, tt), (each_map (AllByRecursion (λ q. value_order x q ≡ Less)) (λ y. y ∷ []) a (lift a h.0), tt), ladder a h.1)
  where
    lift : (ys : List Value) → AllByRecursion (λ y. value_order x y ≡ Less) ys → Each (λ y. AllByRecursion (λ q. value_order x q ≡ Less) (y ∷ [])) ys
    lift [] k = tt
    lift (y ∷ ys) k = ((k.0, tt), lift ys k.1)

pub power_told : (a : List Value) → IsAscending a → Tells SetOf (IsSubset a) ([] ∷ some fits_any (singles a))
power_told a h =
    let chosen = in_some fits_any (λ x. x ∷ []) IsAscending Chooses rest none (λ x xs r g. (step_to x xs r g, step_from x xs r g)) a in
    record {
      kept = set_order;
      ordered = ordered_some fits_any (singles a) (ladder a h);
      passes = λ r m. let q = (chosen r h).0 m in (r, refl, q.0, q.1);
      found = λ z p. (p.0, sym p.1, (chosen p.0 h).1 (p.2, p.3));
    }

pub power_out : (a : List Value) → IsAscending a → (count : ℕ) → count ≡ min (2 ^ length a) (SET_MAX + 1) → TellsOut (IsPower a) (ltb SET_MAX count)
unfolding IsPower
power_out a h count e =
    let size : length ([] ∷ some fits_any (singles a)) ≡ 2 ^ length a = length_some (singles a) ∙ sizes_same suc 1 (λ x. x ∷ []) a (λ x. refl) in
    out_by_size SetOf (IsSubset a) ([] ∷ some fits_any (singles a)) (power_told a h) (2 ^ length a) count size e

pub power_built : (a : List Value) → IsAscending a → (IsPower a Out → ⊥) → (rows : List (List Value)) → rows ≡ [] ∷ some fits_any (singles a)
    → (r : Result Outcome AllocError) → IfOk r (λ o. o ≡ Is (SetOf (map SetOf rows))) → IfOk r (IsPower a)
unfolding IsPower
power_built a h few rows e r k = built_result SetOf (IsSubset a) ([] ∷ some fits_any (singles a)) rows (power_told a h) few e r k

pub power_sets : (a : List Value) → IsAscending a → (rows : List (List Value)) → rows ≡ [] ∷ some fits_any (singles a) → AreSets rows
power_sets a h rows e = are_sets (IsSubset a) ([] ∷ some fits_any (singles a)) rows (power_told a h) (λ r p. ascends r p.0 p.1 p.2) e
