-- The rows of ranges are the rows of the components whose ranges they are.
use Rattle.zf_why.proofs.Prelude.{◌∷◌, [], inl, inr, List, Option, subst, sym, Contains, Contains-cases, Contains-head, Contains-later, Contains-nil, Comp, IsMember, Value, Environment, AreRanges, later_held, IsHeldRow}
use Rattle.zf_walk.specs.Rows as walk

member_of : (xs : List Value) (v : Value) → Contains xs v → IsMember v xs
member_of [] v m = absurd (Contains-nil v m)
member_of (x ∷ xs) v m = elim (Contains-cases x xs v m) [ inl e ↦ inl e | inr later ↦ inr (member_of xs v later) ]

contained : (xs : List Value) (v : Value) → IsMember v xs → Contains xs v
contained [] v m = absurd m
contained (x ∷ xs) v (inl e) = subst (λ z. Contains (z ∷ xs) v) (sym e) (Contains-head v xs)
contained (x ∷ xs) v (inr later) = Contains-later x xs v (contained xs v later)

pub row_of : (e : Environment) (cs : List Comp) (held : List (Option Value)) (ranges : List (List Value)) (row : List Value) → AreRanges e cs held ranges
    → walk.IsRowOf ranges row → IsHeldRow e cs held row
row_of e [] held [] [] r w = tt
row_of e [] held [] (v ∷ row) r w = absurd w
row_of e [] held (xs ∷ ranges) row r w = absurd r
row_of e (c ∷ cs) held [] row r w = absurd r
row_of e (c ∷ cs) held (xs ∷ ranges) [] r w = absurd w
row_of e (c ∷ cs) held (xs ∷ ranges) (v ∷ row) (r, rs) (w, ws) = ((r.members v).0 (member_of xs v w), row_of e cs (later_held held) ranges row rs ws)

pub row_in : (e : Environment) (cs : List Comp) (held : List (Option Value)) (ranges : List (List Value)) (row : List Value) → AreRanges e cs held ranges
    → IsHeldRow e cs held row → walk.IsRowOf ranges row
row_in e [] held [] [] r w = tt
row_in e [] held [] (v ∷ row) r w = absurd w
row_in e [] held (xs ∷ ranges) row r w = absurd r
row_in e (c ∷ cs) held [] row r w = absurd r
row_in e (c ∷ cs) held (xs ∷ ranges) [] r w = absurd w
row_in e (c ∷ cs) held (xs ∷ ranges) (v ∷ row) (r, rs) (w, ws) = (contained xs v ((r.members v).1 w), row_in e cs (later_held held) ranges row rs ws)
