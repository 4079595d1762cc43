-- The parts of events, with one event more.
use Rattle.zf_parts.proofs.Prelude.{◌++◌, ◌∙◌, ◌∷◌, ◌≡◌, [], ap, append-nil, append_assoc, inl, inr, List, Option, refl, subst, sym, ℕ, Contains, AllPairs-across, AllPairs-cons, AllPairs-head, AllPairs-nil, AllPairs-tail, AllPairs-unique, Contains-head, Contains-left, Contains-nil, Event, ComesAfter, IsLater, value_order, Value, AreParts, IsFirstWith, Part, values_at, Ascend, HasEachPart, OneListOfParts, SomeListOfParts}
use Rattle.zf_parts.proofs.Firsts.{new_first, old_or_new, some_first, still_first}
use Rattle.zf_parts.proofs.Orders.{later_or_not, never_both}
use Rattle.zf_parts.proofs.Putting.{has_or_none, HasNone, in_put, put, put_ascends, put_in}

abbrev InOrder : Event Value → Event Value → Type 0
InOrder f g = ComesAfter value_order f.row g.row

module _ (places : List ℕ) (after : Option (List Value)) where
  pub no_parts : AreParts places after [] []
  no_parts = record {
    ascending = AllPairs-nil (λ (p q : Part). ComesAfter value_order p.values q.values);
    members = λ p. ((λ m. absurd (Contains-nil p m)), (λ h. let first = h.0 in absurd (Contains-nil p.first first.event)));
  }

  module _ (events : List (Event Value)) (e : Event Value) (last : (x : Event Value) → Contains events x
      → ComesAfter value_order x.row e.row) (parts : List Part) (h : AreParts places after events parts) where
    abbrev pub values : List Value
    values = values_at places e.row

    -- no part of it is to be kept
    kept : ((x : Event Value) → IsFirstWith places (events ++ e ∷ []) values x → IsLater value_order after values → x ≡ e → ⊥) → AreParts places after (events ++ e ∷ []) parts
    kept never = record {
      ascending = h.ascending;
      members = λ p. (
        (λ m. let (first, later) = (h.members p).0 m in (still_first places events e last p.values p.first first, later)),
        (λ k. let (first, later) = k in elim (old_or_new places events e last p.values p.first first) [
          | inl old ↦ (h.members p).1 (old, later)
          | inr (is, none) ↦ absurd (
              let has : values ≡ p.values = subst (λ (x : Event Value). values_at places x.row ≡ p.values) is first.has in
              never p.first (subst (λ v. IsFirstWith places (events ++ e ∷ []) v p.first) (sym has) first) (subst (IsLater value_order after) (sym has) later) is)
        ]),
      );
    }

    -- its values don't come after the named ones
    pub not_later : (IsLater value_order after values → ⊥) → AreParts places after (events ++ e ∷ []) parts
    not_later never = kept (λ x first later is. never later)

    -- an earlier event has them
    pub not_new : (p : Part) → Contains parts p → p.values ≡ values → AreParts places after (events ++ e ∷ []) parts
    not_new p m same = kept (λ x first later is.
        let (old, l) = (h.members p).0 m in
        let here : values_at places p.first.row ≡ values = old.has ∙ same in
        elim (old_or_new places events e last values x first) [
          | inl k ↦ let there : ComesAfter value_order x.row e.row = last x k.event in
              let itself : ComesAfter value_order e.row e.row = subst (λ (z : Event Value). ComesAfter value_order z.row e.row) is there in never_both e.row e.row itself itself
          | inr (s, none) ↦ none p.first old.event here
        ])

    -- its part is new
    pub is_new : Ascend events → IsLater value_order after values → HasNone values parts → AreParts places after (events ++ e ∷ []) (put (record { values = values; first = e }) parts)
    is_new o later none = record {
      ascending = put_ascends part parts none h.ascending;
      members = λ p. (
        (λ m. elim (in_put part parts none p m) [
          | inl same ↦ subst (λ (q : Part). IsFirstWith places (events ++ e ∷ []) q.values q.first × IsLater value_order after q.values) same (new_first places events e last fresh, later)
          | inr n ↦ let (first, l) = (h.members p).0 n in (still_first places events e last p.values p.first first, l)
        ]),
        (λ k. let (first, l) = k in put_in part parts none p (elim (old_or_new places events e last p.values p.first first) [
          | inl old ↦ inr ((h.members p).1 (old, l))
          | inr (is, gone) ↦ inl (same_part p.values p.first (subst (λ (x : Event Value). values_at places x.row ≡ p.values) is first.has) is)
        ])),
      );
    } where
      part : Part
      part = record { values = values; first = e }

      same_part : (vs : List Value) (x : Event Value) → values ≡ vs → x ≡ e → part ≡ record { values = vs; first = x }
      same_part vs x has is = ap (λ (us : List Value). record { values = us; first = e }) has ∙ ap (λ (y : Event Value). record { values = vs; first = y }) (sym is)

      fresh : (y : Event Value) → Contains events y → values_at places y.row ≡ values → ⊥
      fresh y m has =
          let (x, first) = some_first places events values o y m has in
          none (record { values = values; first = x }) ((h.members (record { values = values; first = x })).1 (first, later)) refl

pub one_list_of_parts : OneListOfParts
one_list_of_parts places after events xs ys e f =
    AllPairs-unique (λ (p q : Part). ComesAfter value_order p.values q.values) (λ p q h k. never_both p.values q.values h k) xs ys e.ascending f.ascending
    (λ p m. (f.members p).1 ((e.members p).0 m)) (λ p m. (e.members p).1 ((f.members p).0 m))

pub has_each_part : HasEachPart
has_each_part places after events parts o h values = (
  (λ k. let (p, m, same) = k in
      let (first, later) = (h.members p).0 m in
      ((p.first, first.event, first.has ∙ same), subst (IsLater value_order after) same later)),
  (λ k. let ((y, m, has), later) = k in
      let (x, first) = some_first places events values o y m has in
      (record { values = values; first = x }, (h.members (record { values = values; first = x })).1 (first, later), refl)),
)

front : (xs ys : List (Event Value)) → Ascend (xs ++ ys) → Ascend xs
front [] ys o = AllPairs-nil InOrder
front (x ∷ xs) ys o = AllPairs-cons InOrder x xs (λ y m. AllPairs-head InOrder x (xs ++ ys) o y (Contains-left xs ys y m)) (front xs ys (AllPairs-tail InOrder x (xs ++ ys) o))

-- from the parts of the first events to those of all
module _ (places : List ℕ) (after : Option (List Value)) where
  parts_on : (done rest : List (Event Value)) (parts : List Part) → Ascend (done ++ rest) → Ascend done → AreParts places after done parts
      → (all : List Part) × AreParts places after (done ++ rest) all
  parts_on done [] parts o d h = (parts, subst (λ (es : List (Event Value)). AreParts places after es parts) (sym (append-nil done)) h)
  parts_on done (e ∷ rest) parts o d h =
      let split : (done ++ e ∷ []) ++ rest ≡ done ++ e ∷ rest = append_assoc done (e ∷ []) rest in
      let (more, k) = step in
      subst (λ (es : List (Event Value)). (all : List Part) × AreParts places after es all) split
      (parts_on (done ++ e ∷ []) rest more (subst Ascend (sym split) o) (front (done ++ e ∷ []) rest (subst Ascend (sym split) o)) k)
    where
      last : (x : Event Value) → Contains done x → ComesAfter value_order x.row e.row
      last x m = AllPairs-across InOrder done (e ∷ rest) o x e m (Contains-head e rest)

      step : (more : List Part) × AreParts places after (done ++ e ∷ []) more
      step = elim (later_or_not after (values_at places e.row)) [
        | inr never ↦ (parts, not_later places after done e last parts h never)
        | inl later ↦ elim (has_or_none (values_at places e.row) parts) [
          | inl (p, m, same) ↦ (parts, not_new places after done e last parts h p m same)
          | inr none ↦ (put (record { values = values_at places e.row; first = e }) parts, is_new places after done e last parts h d later none)
        ]
      ]

pub some_list_of_parts : SomeListOfParts
some_list_of_parts places after events o = parts_on places after [] events [] o (AllPairs-nil InOrder) (no_parts places after)
