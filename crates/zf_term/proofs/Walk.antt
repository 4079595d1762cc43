-- A walk over a list: what holds of the items that are ahead.
use Rattle.zf_term.proofs.Prelude.{◌++◌, ◌+◌, ◌<◌, ◌∙◌, ◌∷◌, ◌≡◌, ◌≤◌, [], add-one, ap, drop, drop-cons, get_or, length, List, map, refl, subst, suc, sym, ℕ, drop_all}

pub dropped : {X : Type 0} (xs : List X) (i : ℕ) (x : X) → i < length xs → x ≡ get_or xs i x → drop i xs ≡ x ∷ drop (i + 1) xs
dropped xs i x l e = rw add-one (drop-cons xs i x l ∙ ap (λ y. y ∷ drop (suc i) xs) (sym e))

-- an item is ahead
pub at_step : {X : Type 0} (P : List X → Type 0) (xs : List X) (i : ℕ) (x : X) → x ≡ get_or xs i x → i < length xs → P (x ∷ drop (i + 1) xs) → P (drop i xs)
at_step P xs i x e l h = subst P (sym (dropped xs i x l e)) h

-- no item is ahead
pub at_end : {X : Type 0} (P : List X → Type 0) (xs : List X) (i : ℕ) → length xs ≤ i → P [] → P (drop i xs)
at_end P xs i h p = subst P (sym (drop_all i xs h)) p

-- an item was pushed
pushed_on : {X Y : Type 0} (f : X → Y) (xs : List X) (x : X) (rest : List Y) → map f (xs ++ x ∷ []) ++ rest ≡ map f xs ++ f x ∷ rest
pushed_on f [] x rest = refl
pushed_on f (y ∷ xs) x rest = ap (λ us. f y ∷ us) (pushed_on f xs x rest)

pub pushed : {X Y : Type 0} (f : X → Y) (xs ys : List X) (x : X) (rest : List Y) → ys ≡ xs ++ x ∷ [] → map f ys ++ rest ≡ map f xs ++ f x ∷ rest
pushed f xs ys x rest e = ap (λ zs. map f zs ++ rest) e ∙ pushed_on f xs x rest
