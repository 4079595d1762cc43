-- One list of ranges, one list of events; resuming, and the bound.
use Rattle.zf_enum.proofs.Prelude.{◌∙◌, ◌∷◌, ◌≡◌, [], ap, List, Option, refl, subst, value_order, Value, Comp, Environment, property, AreRanges, first_held, IsComponentRange, later_held, IsBound, IsEvents, EventsResume, OneEvents, OneRanges, TestsAreBound}
use Rattle.zf_value.specs.contracts.plain.ValueOrd.TheImpl.Laws as order_laws
use Rattle.zf_value.proofs.Once as once
use Rattle.zf_walk.proofs.LawProofs as walk

one_range : (e : Environment) (c : Comp) (held : Option Value) (xs ys : List Value) → IsComponentRange e c held xs → IsComponentRange e c held ys → xs ≡ ys
one_range e c held xs ys h k = once.one_list xs ys h.ascending k.ascending (λ z. (λ m. (k.members z).1 ((h.members z).0 m), λ m. (h.members z).1 ((k.members z).0 m)))

same_ranges : (e : Environment) (cs : List Comp) (held : List (Option Value)) (xs ys : List (List Value)) → AreRanges e cs held xs → AreRanges e cs held ys → xs ≡ ys
same_ranges e [] held [] [] h k = refl
same_ranges e [] held [] (y ∷ ys) h k = absurd k
same_ranges e [] held (x ∷ xs) ys h k = absurd h
same_ranges e (c ∷ cs) held [] ys h k = absurd h
same_ranges e (c ∷ cs) held (x ∷ xs) [] h k = absurd k
same_ranges e (c ∷ cs) held (x ∷ xs) (y ∷ ys) h k = ap (λ v. v ∷ xs) (one_range e c (first_held held) x y h.0 k.0) ∙ ap (λ vs. y ∷ vs) (same_ranges e cs (later_held held) xs ys h.1 k.1)

pub one_ranges : OneRanges
one_ranges e s held xs ys h k = same_ranges e s.comps held xs ys h k

pub one_events : OneEvents
one_events e s p xs ys h k =
    let same : k.ranges ≡ h.ranges = same_ranges e s.comps p.held k.ranges h.ranges k.of_components h.of_components in
    walk.one_list value_order order_laws.total-law (property e s.conjuncts) h.ranges p.after xs ys h.listed
    (subst (λ ranges. IsEvents value_order (property e s.conjuncts) ranges p.after ys) same k.listed)

pub events_resume : EventsResume
events_resume e s p front x rest h = record {
  ranges = h.ranges;
  of_components = h.of_components;
  listed = walk.resumes value_order order_laws.total-law (property e s.conjuncts) h.ranges p.after front x rest h.listed;
}

pub tests_are_bound : TestsAreBound
tests_are_bound e s p whole number bound h k =
    let same : k.ranges ≡ h.ranges = same_ranges e s.comps p.held k.ranges h.ranges k.of_components h.of_components in
    walk.stays_within_bound value_order order_laws.total-law (property e s.conjuncts) h.ranges p.after whole number bound h.counted
    (subst (λ ranges. IsBound (property e s.conjuncts) ranges bound) same k.counted)
