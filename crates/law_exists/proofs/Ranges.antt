-- The first component that is out, and the ranges of bounded ones.
use Rattle.law_exists.proofs.Prelude.{◌∷◌, ◌≡◌, ◌⊎◌, [], inl, inr, length, List, None, Option, refl, Some, subst, ℕ, ⊎_elim, IsTrue, slice_get, Value, Comp, sets_of, one_bounds, Environment, Decided, HasSome, listed_kept, first_or_none, same_value, IsOneOut, AreRanges, first_held, IsFirstOut, IsHeld, IsNoneOut, IsOutAt, IsComponentRange, later_held, AllByRecursion}
use Rattle.std.proofs.lemmas.Option.{slice_get_within}
use Rattle.law_total.proofs.Sets.{ordered}
use Rattle.law_exists.proofs.DeclaredSets.{decided_one_out, listed_in_sets}

-- ---- the first that is out

out_at_or_not : (e : Environment) (x : Option Comp) → Decided ((c : Comp) × (x ≡ Some c) × IsOneOut e (sets_of c.sets))
out_at_or_not e None = inr (λ h. let s = h.1 in (cc))
out_at_or_not e (Some c) = elim (decided_one_out e (sets_of c.sets)) [
  | inl o ↦ inl (c, refl, o)
  | inr n ↦ inr (λ h. let s = h.1 in let same : h.0 ≡ c = (cc) in n (subst (λ (d : Comp). IsOneOut e (sets_of d.sets)) same h.2))
]

pub first_out_or_none : (e : Environment) (cs : List Comp) → ((place : ℕ) × IsFirstOut e cs place) ⊎ IsNoneOut e cs
first_out_or_none e cs =
    ⊎_elim (λ h. inl (h.0, record { here = h.1; first = h.2 })) (λ g. inr (λ place o. g place (slice_get_within cs place o.0 o.1) o))
    (first_or_none (IsOutAt e cs) (λ place. out_at_or_not e (slice_get cs place)) (length cs))

-- ---- ranges

decided_held : (held : Option Value) (v : Value) → Decided (IsHeld held v)
decided_held None v = inl tt
decided_held (Some w) v = same_value v w

some_range : (e : Environment) (c : Comp) (held : Option Value) → IsTrue (one_bounds e.numbers e.globals (sets_of c.sets)) → HasSome (IsComponentRange e c held)
some_range e c held b = let o = ordered (listed_kept (IsHeld held) (listed_in_sets e (sets_of c.sets) b) (decided_held held)) in (o.list, record { ascending = o.ascending; members = o.members })

pub some_ranges : (e : Environment) (cs : List Comp) (held : List (Option Value)) → AllByRecursion (λ c. IsTrue (one_bounds e.numbers e.globals (sets_of c.sets))) cs → HasSome (AreRanges e cs held)
some_ranges e [] held h = ([], tt)
some_ranges e (c ∷ cs) held h = let xs = some_range e c (first_held held) h.0 in let rest = some_ranges e cs (later_held held) h.1 in (xs.0 ∷ rest.0, (xs.1, rest.1))
