-- The ranges where other values of the same components are held.
use Rattle.zf_instances.proofs.Prelude.{◌∷◌, ◌≡◌, [], ap, length, List, None, Option, refl, Some, subst, suc, sym, zero, Value, Comp, Environment, AreRanges, first_held, IsComponentRange, later_held, exchanged, AreHeldRanges, IsHeldRange, AreHeldAgain}

one_exchanged : (e : Environment) (c : Comp) (was is : Option Value) (xs : List Value) (xss : List (List Value)) (range : Option (List Value)) (ranges : List (Option (List Value)))
    → IsComponentRange e c was xs → (is ≡ None → was ≡ None) → IsHeldRange e c is range
    → (ys : List Value) × (exchanged (xs ∷ xss) (range ∷ ranges) ≡ ys ∷ exchanged xss ranges) × IsComponentRange e c is ys
one_exchanged e c was None xs xss range ranges h again k =
    (xs, ap (λ r. exchanged (xs ∷ xss) (r ∷ ranges)) k, subst (λ o. IsComponentRange e c o xs) (again refl) h)
one_exchanged e c was (Some v) xs xss None ranges h again k = absurd k
one_exchanged e c was (Some v) xs xss (Some ys) ranges h again k = (ys, refl, k)

pub exchange_held : (e : Environment) (cs : List Comp) (before held : List (Option Value)) (rs : List (List Value)) (others : List (Option (List Value)))
    → AreRanges e cs before rs → AreHeldAgain before held → AreHeldRanges e cs held others → AreRanges e cs held (exchanged rs others)
exchange_held e [] before held [] others h again k = tt
exchange_held e [] before held (xs ∷ rs) others h again k = absurd h
exchange_held e (c ∷ cs) before held [] others h again k = absurd h
exchange_held e (c ∷ cs) before held (xs ∷ rs) [] h again k = absurd k
exchange_held e (c ∷ cs) before held (xs ∷ rs) (o ∷ others) h again k =
    let one = one_exchanged e c (first_held before) (first_held held) xs rs o others h.0 (again zero) k.0 in
    let further = exchange_held e cs (later_held before) (later_held held) rs others h.1 (λ place. again (suc place)) k.1 in
    subst (AreRanges e (c ∷ cs) held) (sym one.1) (one.2, further)

pub as_many_held : (e : Environment) (cs : List Comp) (before held : List (Option Value)) (rs : List (List Value)) (others : List (Option (List Value)))
    → AreRanges e cs before rs → AreHeldRanges e cs held others → length others ≡ length rs
as_many_held e [] before held [] [] h k = refl
as_many_held e [] before held [] (o ∷ others) h k = absurd k
as_many_held e [] before held (xs ∷ rs) others h k = absurd h
as_many_held e (c ∷ cs) before held [] others h k = absurd h
as_many_held e (c ∷ cs) before held (xs ∷ rs) [] h k = absurd k
as_many_held e (c ∷ cs) before held (xs ∷ rs) (o ∷ others) h k = ap suc (as_many_held e cs (later_held before) (later_held held) rs others h.1 k.1)
