-- How many components the conjuncts of a schema need.
use Rattle.zf_instances.proofs.Prelude.{◌<◌, ◌∷◌, ◌≤◌, [], arith, length, List, Option, subst, suc, zero, ℕ, slice_get, AreDueWithin, Value, Comp, ResolvedTree, Environment, NeedWithin, due_of, property, AreRanges}
use Rattle.zf_enum.proofs.Started.{as_many}

need_at_all : (n : ℕ) (ps : List ResolvedTree) → ((c : ℕ) → c < length ps → due_of (slice_get ps c) ≤ n) → NeedWithin n ps
need_at_all n [] h c = omega arith
need_at_all n (p ∷ ps) h zero = h zero (omega arith)
need_at_all n (p ∷ ps) h (suc c) = need_at_all n ps (λ d l. h (suc d) (omega (arith, l))) c

-- so many components are due
pub needs_within : (e : Environment) (cs : List Comp) (held : List (Option Value)) (rs : List (List Value)) (ps : List ResolvedTree) → AreRanges e cs held rs
    → AreDueWithin (property e ps) (length cs) → NeedWithin (length rs) ps
needs_within e cs held rs ps h d = subst (λ n. NeedWithin n ps) (as_many e cs held rs h) (need_at_all (length cs) ps d)
