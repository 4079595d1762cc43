-- What is found of a state in a schema that is sought: its rows that agree with the state.
use Rattle.zf_steps.proofs.Prelude.{◌∷◌, ◌≡◌, ◌≢◌, [], inl, inr, List, Option, subst, sym, ℕ, Contains, Comp, Schema, Value, IsMember, Contains-cases, Contains-head, Contains-later, Contains-nil, False, True, Event, IsRowOf, Environment, AreRanges, State, AgreesWith, HasRow, held_by, IsEventOf, IsOther, IsRowIn, IsSought, Operation, Satisfies, sources_of, System, test_in}
use Rattle.zf_walk.specs.declared.judge.Truth.{Truth}

is_member : (xs : List Value) (v : Value) → Contains xs v → IsMember v xs
is_member [] v k = absurd (Contains-nil v k)
is_member (x ∷ xs) v k = elim (Contains-cases x xs v k) [ inl e ↦ inl e | inr r ↦ inr (is_member xs v r) ]

contains : (xs : List Value) (v : Value) → IsMember v xs → Contains xs v
contains [] v k = absurd k
contains (x ∷ xs) v (inl e) = subst (Contains (x ∷ xs)) e (Contains-head x xs)
contains (x ∷ xs) v (inr k) = Contains-later x xs v (contains xs v k)

module _ (e : Environment) (state : List Comp) (values : List Value) where
  -- what is held of components
  abbrev held : List Comp → List (Option Value)
  held cs = held_by (sources_of state cs) values

  -- the rows of the ranges are those that agree with the state
  agrees : (cs : List Comp) (ranges : List (List Value)) (row : List Value) → AreRanges e cs (held cs) ranges → IsRowOf ranges row → IsRowIn e cs row × AgreesWith state values cs row
  agrees [] [] [] h k = (tt, tt)
  agrees [] [] (v ∷ row) h k = absurd k
  agrees [] (xs ∷ ranges) row h k = absurd h
  agrees (c ∷ cs) [] row h k = absurd h
  agrees (c ∷ cs) (xs ∷ ranges) [] h k = absurd k
  agrees (c ∷ cs) (xs ∷ ranges) (v ∷ row) h k =
      let here = (h.0.members v).0 (is_member xs v k.0) in
      let rest = agrees cs ranges row h.1 k.1 in
      ((here.0, rest.0), (here.1, rest.1))

  within : (cs : List Comp) (ranges : List (List Value)) (row : List Value) → AreRanges e cs (held cs) ranges → IsRowIn e cs row → AgreesWith state values cs row → IsRowOf ranges row
  within [] [] [] h k a = tt
  within [] [] (v ∷ row) h k a = absurd k
  within [] (xs ∷ ranges) row h k a = absurd h
  within (c ∷ cs) [] row h k a = absurd h
  within (c ∷ cs) (xs ∷ ranges) [] h k a = absurd k
  within (c ∷ cs) (xs ∷ ranges) (v ∷ row) h k a = (contains xs v ((h.0.members v).1 (k.0, a.0)), within cs ranges row h.1 k.1 a.1)

  module _ (a : Schema) where
    -- what is found of the state is such a row
    pub has_row : (x : Event Value) → IsEventOf e a (held a.comps) x → HasRow e a state values x.truth
    has_row x f =
        let both = agrees a.comps f.ranges x.row f.of_components f.is.within in
        record { row = x.row; within = both.0; agrees = both.1; truth_of = f.is.truth_of }

    -- and each such row is found
    pub is_found : (ranges : List (List Value)) (t : Truth) → AreRanges e a.comps (held a.comps) ranges → t ≢ False → (h : HasRow e a state values t)
        → IsEventOf e a (held a.comps) (record { row = h.row; truth = t })
    is_found ranges t are not h = record {
      ranges = ranges;
      of_components = are;
      is = record { within = within a.comps ranges h.row are h.within h.agrees; later = tt; truth_of = h.truth_of; not_false = not };
    }

-- ---- what is sought

module _ (m : System) (state : List Comp) (name : List ℕ) (a : Schema) (test : m.test ≡ test_in state name a) (values : List Value) where
  -- what is found of the state by the test
  by_test : (x : Event Value) → IsEventOf m.environment m.test.schema (held_by m.test.sources values) x → HasRow m.environment a state values x.truth
  by_test x f = has_row m.environment state values a x (subst (λ (o : Operation). IsEventOf m.environment o.schema (held_by o.sources values) x) test f)

  pub sought_satisfies : IsSought m (State values) → Satisfies m.environment a state values
  sought_satisfies (row, first) = by_test (record { row = row; truth = True }) first.event

  -- another state satisfies the schema in no way
  pub other_has_none : (ranges : List (List Value)) → AreRanges m.environment a.comps (held_by (sources_of state a.comps) values) ranges
      → (t : Truth) → t ≢ False → IsOther m (State values) → HasRow m.environment a state values t → ⊥
  other_has_none ranges are t not none h =
      none (record { row = h.row; truth = t })
      (subst (λ (o : Operation). IsEventOf m.environment o.schema (held_by o.sources values) (record { row = h.row; truth = t })) (sym test) (is_found m.environment state values a ranges t are not h))
