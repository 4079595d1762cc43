-- The events that a walk has passed: they are those up to its last answer.
use Rattle.zf_lines.proofs.Prelude.{◌++◌, ◌∙◌, ◌∷◌, ◌≡◌, ◌⊎◌, [], ap, arith, inl, inr, length, List, None, Option, Some, subst, sym, take, false≢true, take_all, IsTotalOrder, lists_total, slice_cmp, ordering_reverse, AllPairs, Contains, Ordering, Greater, Less, AllPairs-across, AllPairs-cons, AllPairs-head, AllPairs-nil, AllPairs-tail, Contains-cases, Contains-either, Contains-head, Contains-left, Contains-nil, Contains-right, Conjuncts, Event, IsEvent, Ahead, AreAllAhead, IsAhead, IsNoneAhead, past, Takes, ComesAfter, AreEventsUpTo}
use Rattle.zf_walk.proofs.Picks.{IsRowOf-length}

-- one more element, above all others
pub AllPairs-push : {X : Type 0} (R : X → X → Type 0) (xs : List X) (y : X) → AllPairs R xs → ((x : X) → Contains xs x → R x y) → AllPairs R (xs ++ y ∷ [])
AllPairs-push R [] y o h = AllPairs-cons R y [] (λ x m. absurd (Contains-nil x m)) (AllPairs-nil R)
AllPairs-push {X} R (x ∷ xs) y o h =
    AllPairs-cons R x (xs ++ y ∷ []) (λ z m. elim (Contains-either xs (y ∷ []) z m) [
      | inl a ↦ AllPairs-head R x xs o z a
      | inr b ↦ elim (Contains-cases y [] z b) [ inl e ↦ subst (R x) e (h x (Contains-head x xs)) | inr c ↦ absurd (Contains-nil z c) ]
    ]) (AllPairs-push R xs y (AllPairs-tail R x xs o) (λ z m. h z (Contains-right (x ∷ []) xs z m)))

module _ {V : Type 0} (cmp : V → V → Ordering) (s : Conjuncts V) (ranges : List (List V)) (after : Option (List V)) where
  -- the events that are not ahead, in their order
  pub record Behind (a : Ahead V) (events : List (Event V)) : Type 0 where
    pub ascending : AllPairs (λ (e f : Event V). ComesAfter cmp e.row f.row) events
    pub are : (e : Event V) → Contains events e → IsEvent cmp s ranges after e
    pub before : (e f : Event V) → Contains events e → IsEvent cmp s ranges after f → IsAhead cmp a f.row → ComesAfter cmp e.row f.row
    pub covered : (e : Event V) → IsEvent cmp s ranges after e → Contains events e ⊎ IsAhead cmp a e.row

  pub none_behind : (a : Ahead V) → AreAllAhead cmp s ranges after a → Behind a []
  none_behind a all = record {
    ascending = AllPairs-nil (λ (e f : Event V). ComesAfter cmp e.row f.row);
    are = λ e m. absurd (Contains-nil e m);
    before = λ e f m i h. absurd (Contains-nil e m);
    covered = λ e i. inr (all e i);
  }

  long : (e f : Event V) → IsEvent cmp s ranges after e → IsEvent cmp s ranges after f → length f.row ≡ length e.row
  long e f i j = IsRowOf-length ranges f.row j.within ∙ sym (IsRowOf-length ranges e.row i.within)

  whole : (e f : Event V) → IsEvent cmp s ranges after e → IsEvent cmp s ranges after f → take (length e.row) f.row ≡ f.row
  whole e f i j = take_all (length e.row) f.row (let l = long e f i j in omega arith)

  -- what is ahead of a row that was passed comes after it
  past-to : (e f : Event V) → IsEvent cmp s ranges after e → IsEvent cmp s ranges after f → IsAhead cmp (past e.row) f.row → ComesAfter cmp e.row f.row
  past-to e f i j (inl c) = subst (λ r. ComesAfter cmp e.row r) (whole e f i j) c
  past-to e f i j (inr w) = absurd (false≢true w.0)

  past-from : (e f : Event V) → IsEvent cmp s ranges after e → IsEvent cmp s ranges after f → ComesAfter cmp e.row f.row → IsAhead cmp (past e.row) f.row
  past-from e f i j c = inl (subst (λ r. ComesAfter cmp e.row r) (sym (whole e f i j)) c)

  module _ (o : IsTotalOrder cmp) where
    never-both : (a b : List V) → ComesAfter cmp a b → ComesAfter cmp b a → ⊥
    never-both a b h k = let e : slice_cmp cmp a b ≡ Greater = (lists_total o).antisymm a b ∙ ap ordering_reverse k in let f : Less ≡ Greater = sym h ∙ e in cc

    -- one event is taken
    pub one_behind : (a b : Ahead V) (events : List (Event V)) (e : Event V) → Takes cmp s ranges after a e b → Behind a events → Behind b (events ++ e ∷ [])
    one_behind a b events e t h = record {
      ascending = AllPairs-push (λ (f g : Event V). ComesAfter cmp f.row g.row) events e h.ascending (λ f m. h.before f e m t.event t.ahead);
      are = λ f m. elim (Contains-either events (e ∷ []) f m) [
        | inl n ↦ h.are f n
        | inr n ↦ elim (Contains-cases e [] f n) [ inl same ↦ subst (IsEvent cmp s ranges after) same t.event | inr c ↦ absurd (Contains-nil f c) ]
      ];
      before = λ f g m i k. let later : ComesAfter cmp e.row g.row = past-to e g t.event i (subst (λ w. IsAhead cmp w g.row) t.passed k) in
          elim (Contains-either events (e ∷ []) f m) [
            | inl n ↦ (lists_total o).trans f.row e.row g.row (h.before f e n t.event t.ahead) later
            | inr n ↦ elim (Contains-cases e [] f n) [ inl same ↦ subst (λ (x : Event V). ComesAfter cmp x.row g.row) same later | inr c ↦ absurd (Contains-nil f c) ]
          ];
      covered = λ f i. elim (h.covered f i) [
        | inl n ↦ inl (Contains-left events (e ∷ []) f n)
        | inr k ↦ elim (t.first f i k) [
          | inl same ↦ inl (subst (Contains (events ++ e ∷ [])) (sym same) (Contains-right events (e ∷ []) e (Contains-head e [])))
          | inr c ↦ inr (subst (λ w. IsAhead cmp w f.row) (sym t.passed) (past-from e f t.event i c))
        ]
      ];
    }

    -- up to the event that was taken last
    pub up_to_last : (front : List (Event V)) (e : Event V) → Behind (past e.row) (front ++ e ∷ []) → AreEventsUpTo cmp s ranges after (Some e.row) (front ++ e ∷ [])
    up_to_last front e h = record {
      ascending = h.ascending;
      members = λ f. (
        (λ m. let i = h.are f m in (i, λ c. not_after f m (subst (λ r. ComesAfter cmp r f.row) (whole f e i event) c))),
        (λ i. elim (h.covered f i.0) [
          | inl m ↦ m
          | inr k ↦ absurd (i.1 (subst (λ r. ComesAfter cmp r f.row) (sym (whole f e i.0 event)) (past-to e f event i.0 k)))
        ]),
      );
    } where
      itself : Contains (front ++ e ∷ []) e
      itself = Contains-right front (e ∷ []) e (Contains-head e [])

      event : IsEvent cmp s ranges after e
      event = h.are e itself

      not_after : (f : Event V) → Contains (front ++ e ∷ []) f → ComesAfter cmp e.row f.row → ⊥
      not_after f m c = elim (Contains-either front (e ∷ []) f m) [
        | inl n ↦ never-both e.row f.row c (AllPairs-across (λ (x y : Event V). ComesAfter cmp x.row y.row) front (e ∷ []) h.ascending f e n (Contains-head e []))
        | inr n ↦ elim (Contains-cases e [] f n) [
          | inl same ↦ let d : ComesAfter cmp e.row e.row = subst (λ (x : Event V). ComesAfter cmp e.row x.row) (sym same) c in never-both e.row e.row d d
          | inr b ↦ absurd (Contains-nil f b)
        ]
      ]

  -- where no event is ahead, all are after
  pub up_to_end : (a : Ahead V) (events : List (Event V)) → IsNoneAhead cmp s ranges after a → Behind a events → AreEventsUpTo cmp s ranges after None events
  up_to_end a events none h = record {
    ascending = h.ascending;
    members = λ f. (
      (λ m. (h.are f m, tt)),
      (λ i. elim (h.covered f i.0) [ inl m ↦ m | inr k ↦ absurd (none f i.0 k) ]),
    );
  }
