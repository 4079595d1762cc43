-- The first event that has some values.
use Rattle.zf_parts.proofs.Prelude.{◌++◌, ◌∙◌, ◌∷◌, ◌≡◌, ◌⊎◌, [], inl, inr, List, refl, subst, sym, ℕ, Contains, AllPairs-head, AllPairs-tail, Contains-cases, Contains-either, Contains-head, Contains-later, Contains-left, Contains-nil, Contains-right, Event, ComesAfter, value_order, Value, IsFirstWith, values_at, Ascend}
use Rattle.zf_parts.proofs.Orders.{never_both, one_or_other}

-- the one event at the end of a list
pub at_end : (events : List (Event Value)) (e : Event Value) → Contains (events ++ e ∷ []) e
at_end events e = Contains-right events (e ∷ []) e (Contains-head e [])

pub among_or_last : (events : List (Event Value)) (e x : Event Value) → Contains (events ++ e ∷ []) x → Contains events x ⊎ (x ≡ e)
among_or_last events e x m = elim (Contains-either events (e ∷ []) x m) [
  | inl n ↦ inl n
  | inr n ↦ elim (Contains-cases e [] x n) [ inl same ↦ inr (sym same) | inr c ↦ absurd (Contains-nil x c) ]
]

module _ (places : List ℕ) where
  -- there is one
  pub one_first : (events : List (Event Value)) (values : List Value) (x y : Event Value) → IsFirstWith places events values x → IsFirstWith places events values y → x ≡ y
  one_first events values x y h k = elim (h.first y k.event k.has) [
    | inl same ↦ sym same
    | inr later ↦ elim (k.first x h.event h.has) [ inl same ↦ same | inr earlier ↦ absurd (never_both x.row y.row later earlier) ]
  ]

  -- where some event of an ascending list has the values, one is the first
  pub some_first : (events : List (Event Value)) (values : List Value) → Ascend events → (y : Event Value) → Contains events y → values_at places y.row ≡ values
      → (x : Event Value) × IsFirstWith places events values x
  some_first [] values o y m has = absurd (Contains-nil y m)
  some_first (e ∷ events) values o y m has =
      go (one_or_other (values_at places e.row) values) (λ later. some_first events values (AllPairs-tail (λ (f g : Event Value). ComesAfter value_order f.row g.row) e events o) y later has)
    where
      go : (values_at places e.row ≡ values) ⊎ (values_at places e.row ≡ values → ⊥)
          → (Contains events y → (x : Event Value) × IsFirstWith places events values x) → (x : Event Value) × IsFirstWith places (e ∷ events) values x
      go (inl same) ih = (
        e,
        record {
          event = Contains-head e events;
          has = same;
          first = λ z n q. elim (Contains-cases e events z n) [
            | inl is ↦ inl (sym is)
            | inr later ↦ inr
                (AllPairs-head (λ (f g : Event Value). ComesAfter value_order f.row g.row) e events o z later)
          ];
        },
      )
      go (inr other) ih = elim (Contains-cases e events y m) [
        | inl is ↦ absurd (other (subst (λ (z : Event Value). values_at places z.row ≡ values) (sym is) has))
        | inr later ↦ let (x, h) = ih later in (
          x,
          record {
            event = Contains-later e events x h.event;
            has = h.has;
            first = λ z n q. elim (Contains-cases e events z n) [
              | inl is ↦ absurd (other (subst (λ (w : Event Value). values_at places w.row ≡ values) (sym is) q))
              | inr k ↦ h.first z k q
            ];
          },
        )
      ]

  module _ (events : List (Event Value)) (e : Event Value) (last : (x : Event Value) → Contains events x → ComesAfter value_order x.row e.row) where
    -- with one event more, after all others
    pub still_first : (values : List Value) (x : Event Value) → IsFirstWith places events values x → IsFirstWith places (events ++ e ∷ []) values x
    still_first values x h = record {
      event = Contains-left events (e ∷ []) x h.event;
      has = h.has;
      first = λ y m q. elim (among_or_last events e y m) [
        | inl n ↦ h.first y n q
        | inr is ↦ inr (subst (λ (z : Event Value). ComesAfter value_order x.row z.row) (sym is) (last x h.event))
      ];
    }

    -- it is the first where no other has its values
    pub new_first : ((y : Event Value) → Contains events y → values_at places y.row ≡ values_at places e.row → ⊥) → IsFirstWith places (events ++ e ∷ []) (values_at places e.row) e
    new_first none = record {
      event = at_end events e;
      has = refl;
      first = λ y m q. elim (among_or_last events e y m) [ inl n ↦ absurd (none y n q) | inr is ↦ inl is ];
    }

    -- the first of all was that of the others, or is the new one, and then none of the others has its values
    pub old_or_new : (values : List Value) (x : Event Value) → IsFirstWith places (events ++ e ∷ []) values x
        → IsFirstWith places events values x ⊎ ((x ≡ e) × ((y : Event Value) → Contains events y → values_at places y.row ≡ values → ⊥))
    old_or_new values x h = elim (among_or_last events e x h.event) [
      | inl n ↦ inl (record { event = n; has = h.has; first = λ y m q. h.first y (Contains-left events (e ∷ []) y m) q })
      | inr is ↦ inr (
        is,
        λ y m q. elim (h.first y (Contains-left events (e ∷ []) y m) q) [
          | inl same ↦ let k : ComesAfter value_order e.row e.row = subst (λ (z : Event Value). ComesAfter value_order z.row e.row) (same ∙ is) (last y m) in never_both e.row e.row k k
          | inr later ↦ never_both e.row y.row (subst (λ (z : Event Value). ComesAfter value_order z.row y.row) is later) (last y m)
        ],
      )
    ]
