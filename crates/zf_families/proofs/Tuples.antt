-- The tuples of a product are the rows that take a member of each set.
use Rattle.zf_families.proofs.Prelude.{◌+◌, ◌<◌, ◌↔◌, ◌∙◌, ◌∷◌, ◌≡◌, [], add-one, ap, arith, Bool, false, get_or, length, List, ltb, map, min, refl, Result, subst, suc, sym, take, ℕ, ⊎_elim, false≢true, nil_from_length, IsTrue, IfOk, AllocError, every_at, every_from, members-take_more, parts-Tuple, AreFrom, IsCross, IsAscending, IsMember, members, parts, SET_MAX, SetOf, Tuple, Value, Outcome, Is, Out, sizes, IsTupleFrom, fits_any, whole, AllByRecursion}
use Rattle.zf_families.proofs.Counts.{length_whole}
use Rattle.zf_families.proofs.Lists.{Each, each_map}
use Rattle.zf_families.proofs.InOrder.{ordered_whole}
use Rattle.zf_families.proofs.Told.{TellsOut, made_ascending, Tells, tuple_order, out_by_size, built_result}
use Rattle.zf_families.proofs.Chosen.{Takes, in_whole}

abbrev From : List Value → List Value → Type 0
From sets r = AreFrom r sets

none : (r : List Value) → From [] r ↔ ([] ≡ r)
none [] = (λ h. refl, λ e. tt)
none (p ∷ s) = (λ h. absurd h, λ e. (cc))

step_to : (x : Value) (xs r : List Value) → From (x ∷ xs) r → Takes fits_any (members x) (From xs) r
step_to x xs [] h = absurd h
step_to x xs (p ∷ s) h = (p, s, refl, h.0, h.1, refl)

step_from : (x : Value) (xs r : List Value) → Takes fits_any (members x) (From xs) r → From (x ∷ xs) r
step_from x xs r t = subst (From (x ∷ xs)) t.2 (t.3, t.4)

each_members : (sets : List Value) → AllByRecursion (λ s. IsAscending (members s)) sets → Each (λ s. IsAscending (members s)) sets
each_members [] h = tt
each_members (s ∷ sets) h = (h.0, each_members sets h.1)

pub cross_told : (sets : List Value) → AllByRecursion (λ s. IsAscending (members s)) sets
    → Tells Tuple (λ z. (vs : List Value) × (z ≡ Tuple vs) × AreFrom vs sets) (whole fits_any (map members sets))
cross_told sets h =
    let chosen = in_whole fits_any members (λ a. Unit {0}) From (λ x xs g. tt) none (λ x xs r g. (step_to x xs r, step_from x xs r)) sets in
    record {
      kept = tuple_order;
      ordered = ordered_whole fits_any (map members sets) (each_map IsAscending members sets (each_members sets h));
      passes = λ r m. (r, refl, (chosen r tt).0 m);
      found = λ z p. (p.0, sym p.1, (chosen p.0 tt).1 p.2);
    }

pub cross_out : (sets : List Value) → AllByRecursion (λ s. IsAscending (members s)) sets → (count : ℕ) → count ≡ min (sizes (λ n. n) (map members sets)) (SET_MAX + 1)
    → TellsOut (IsCross sets) (ltb SET_MAX count)
unfolding IsCross
cross_out sets h count e =
    out_by_size Tuple (λ z. (vs : List Value) × (z ≡ Tuple vs) × AreFrom vs sets) (whole fits_any (map members sets)) (cross_told sets h)
    (sizes (λ n. n) (map members sets)) count (length_whole (map members sets)) e

pub cross_built : (sets : List Value) → AllByRecursion (λ s. IsAscending (members s)) sets → (IsCross sets Out → ⊥) → (rows : List (List Value))
    → rows ≡ whole fits_any (map members sets) → (r : Result Outcome AllocError) → IfOk r (λ o. o ≡ Is (SetOf (map Tuple rows))) → IfOk r (IsCross sets)
unfolding IsCross
cross_built sets h few rows e r k =
    built_result Tuple (λ z. (vs : List Value) × (z ≡ Tuple vs) × AreFrom vs sets) (whole fits_any (map members sets)) rows (cross_told sets h) few e r k

pub tuples_ascend : (sets : List Value) → AllByRecursion (λ s. IsAscending (members s)) sets → (rows : List (List Value)) → rows ≡ whole fits_any (map members sets) → IsAscending (map Tuple rows)
tuples_ascend sets h rows e = let t = cross_told sets h in subst (λ rs. IsAscending (map Tuple rs)) (sym e) (made_ascending Tuple t.kept (whole fits_any (map members sets)) t.ordered)

-- where the product is empty there is no row
pub no_tuples : (sets : List Value) (size c : ℕ) → size ≡ min (sizes (λ n. n) (map members sets)) (c + 1) → size ≡ 0 → whole fits_any (map members sets) ≡ []
no_tuples sets size c e z = let l = length_whole (map members sets) in nil_from_length (whole fits_any (map members sets)) (omega (arith, e, z, l))

-- ---- tests of tuples

same_parts : (r s : List Value) → Tuple r ≡ Tuple s → r ≡ s
same_parts r s e = sym (parts-Tuple r) ∙ ap parts e ∙ parts-Tuple s

pub tuple_at : (sets r : List Value) (v : Value) (t : Bool) → v ≡ Tuple r → IsTrue t ↔ AreFrom r sets → IsTrue t ↔ IsTupleFrom sets v
unfolding IsTupleFrom
tuple_at sets r v t e k = (λ g. (r, e, k.0 g), λ p. k.1 (subst (λ s. AreFrom s sets) (same_parts p.0 r (sym p.1 ∙ e)) p.2))

pub no_tuple : (sets : List Value) (v : Value) → ((r : List Value) → v ≡ Tuple r → ⊥) → IsTrue false ↔ IsTupleFrom sets v
unfolding IsTupleFrom
no_tuple sets v h = (λ e. absurd (false≢true e), λ p. absurd (h p.0 p.1))

pub as_many : (vs sets : List Value) → AreFrom vs sets → length vs ≡ length sets
as_many [] [] f = refl
as_many [] (s ∷ sets) f = absurd f
as_many (v ∷ vs) [] f = absurd f
as_many (v ∷ vs) (s ∷ sets) f = ap suc (as_many vs sets f.1)

-- what holds of the first and of the next
pub every_next : (P : Value → Type 0) (xs : List Value) (i : ℕ) (x : Value) → i < length xs → x ≡ get_or xs i x → P x → AllByRecursion P (take i xs) → AllByRecursion P (take (i + 1) xs)
every_next P xs i x l e p h = every_from P (take (i + 1) xs) (λ z m. ⊎_elim (λ n. every_at P (take i xs) z h n) (λ s. subst P s p)
    ((members-take_more xs i x e l z).0 (subst (λ n. IsMember z (take n xs)) (add-one i) m)))
