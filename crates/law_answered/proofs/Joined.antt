-- Two searches of which the second begins after the last row of the first are one search.
use Rattle.law_answered.proofs.Prelude.{◌++◌, ◌+◌, ◌↔◌, ◌∙◌, ◌∷◌, ◌≡◌, [], ap, append_assoc, arith, inl, inr, length, length-append, List, map, None, Option, refl, Some, subst, sym, ℕ, flat_map-append, All-append, All-cons, All-nil, IsTotalOrder, lists_total, AllPairs, Contains, Ordering, AllPairs-cons, AllPairs-head, AllPairs-tail, Contains-either, Contains-head, Contains-later, Contains-left, Contains-right, IsRowOf-length, Conjuncts, Event, IsEvent, ComesAfter, IsLater, TiesAreEqual, IsUpTo, Truth, False, Out, True, AllPairs-mapped, Contains-map, Contains-mapped, AreEventsUpTo, Hold, IsBelow, IsWritten, lines, Status, AreTold, IsBefore, IsNotPast, together, Wording}
use Rattle.law_answered.proofs.OneEnding.{last_of, rows_compared, same_event}
use Rattle.law_answered.proofs.WrittenRows.{not_past, up_to, with_truth}

AllPairs-joined : {X : Type 0} (R : X → X → Type 0) (xs ys : List X) → AllPairs R xs → AllPairs R ys → ((x y : X) → Contains xs x → Contains ys y → R x y) → AllPairs R (xs ++ ys)
AllPairs-joined R [] ys o p across = p
AllPairs-joined R (x ∷ xs) ys o p across =
    AllPairs-cons R x (xs ++ ys)
    (λ z m. elim (Contains-either xs ys z m) [ inl a ↦ AllPairs-head R x xs o z a | inr b ↦ across x z (Contains-head x xs) b ])
    (AllPairs-joined R xs ys (AllPairs-tail R x xs o) p (λ v w m n. across v w (Contains-later x xs v m) n))

-- ---- what is written of both

below_together : (limit : Option ℕ) (n k : ℕ) → IsBelow limit k → IsBelow (together n limit) (n + k)
below_together None n k h = tt
below_together (Some l) n k h = omega arith

module _ {V : Type 0} (telling : Wording V) (limit : Option ℕ) where
  -- the last row is that of an event
  pub last_event : (ys : List (Event V)) (last : Option (List V)) (text : List ℕ) (status : Status) → IsWritten telling limit ys last text status
      → (w : List V) → last ≡ Some w → (y : Event V) × Contains ys y × (y.row ≡ w)
  last_event ys last text status (IsWritten.pauses front e is up hold reached told done) w at =
      (e, subst (λ zs. Contains zs e) (sym is) (last_of telling limit front e), (let q : Some e.row ≡ Some w = sym up ∙ at in cc))
  last_event ys last text status (IsWritten.breaks front e is up hold out below told past) w at =
      (e, subst (λ zs. Contains zs e) (sym is) (last_of telling limit front e), (let q : Some e.row ≡ Some w = sym up ∙ at in cc))
  last_event ys last text status (IsWritten.ends none hold below told done) w at = absurd (let q : None ≡ Some w = sym none ∙ at in cc)

  both_lines : (xs ys : List (Event V)) (end : List ℕ) → lines telling xs ++ (lines telling ys ++ end) ≡ lines telling (xs ++ ys) ++ end
  both_lines xs ys end = sym (append_assoc (lines telling xs) (lines telling ys) end) ∙ ap (λ t. t ++ end) (sym (flat_map-append (λ (e : Event V). telling.line e.row) xs ys))

  both_split : (xs ys front : List (Event V)) (e : Event V) → ys ≡ front ++ e ∷ [] → xs ++ ys ≡ (xs ++ front) ++ e ∷ []
  both_split xs ys front e is = ap (λ zs. xs ++ zs) is ∙ sym (append_assoc xs front (e ∷ []))

  pub both_written : (xs ys : List (Event V)) (last : Option (List V)) (text : List ℕ) (status : Status) → Hold xs → IsWritten telling limit ys last text status
      → IsWritten telling (together (length xs) limit) (xs ++ ys) last (lines telling xs ++ text) status
  both_written xs ys last text status before (IsWritten.pauses front e is up hold reached told done) =
      IsWritten.pauses (xs ++ front) e (both_split xs ys front e is) up (All-append (λ (x : Event V). x.truth ≡ True) xs ys before hold)
      (ap (together (length xs)) reached ∙ ap Some (sym (length-append xs ys)))
      (ap (λ t. lines telling xs ++ t) told ∙ both_lines xs ys telling.more) done
  both_written xs ys last text status before (IsWritten.breaks front e is up hold out below told past) =
      IsWritten.breaks (xs ++ front) e (both_split xs ys front e is) up (All-append (λ (x : Event V). x.truth ≡ True) xs front before hold) out
      (subst (IsBelow (together (length xs) limit)) (sym (length-append xs front)) (below_together limit (length xs) (length front) below))
      (ap (λ t. lines telling xs ++ t) told ∙ both_lines xs front (telling.out e.row)) past
  both_written xs ys last text status before (IsWritten.ends none hold below told done) =
      IsWritten.ends none (All-append (λ (x : Event V). x.truth ≡ True) xs ys before hold)
      (subst (IsBelow (together (length xs) limit)) (sym (length-append xs ys)) (below_together limit (length xs) (length ys) below))
      (ap (λ t. lines telling xs ++ t) told ∙ both_lines xs ys telling.end) done

module _ {V : Type 0} (cmp : V → V → Ordering) (o : IsTotalOrder cmp) (ties : TiesAreEqual cmp) (s : Conjuncts V) (ranges : List (List V)) (after : Option (List V)) where
  long : (a : Option (List V)) (x : Event V) → IsEvent cmp s ranges a x → length x.row ≡ length ranges
  long a x i = IsRowOf-length ranges x.row i.within

  -- ---- the events of both

  module _ (row : List V) (last : Option (List V)) (xs ys : List (Event V)) (h : AreEventsUpTo cmp s ranges after (Some row) xs) (k : AreEventsUpTo cmp s ranges (Some row) last ys)
      (here : (x : Event V) × Contains xs x × (x.row ≡ row)) (there : (w : List V) → last ≡ Some w → (y : Event V) × Contains ys y × (y.row ≡ w)) where
    in_first : (z : Event V) → Contains xs z → IsEvent cmp s ranges after z
    in_first z m = ((h.members z).0 m).0

    in_second : (z : Event V) → Contains ys z → IsEvent cmp s ranges (Some row) z
    in_second z m = ((k.members z).0 m).0

    row_long : length row ≡ length ranges
    row_long = ap length (sym here.2) ∙ long after here.0 (in_first here.0 here.1)

    -- the row itself comes after the named one
    row_later : IsLater cmp after row
    row_later = subst (IsLater cmp after) here.2 (in_first here.0 here.1).later

    across : (x y : Event V) → Contains xs x → Contains ys y → ComesAfter cmp x.row y.row
    across x y m n = elim (not_past cmp o ties (Some row) (length ranges) x.row row_long (long after x (in_first x m)) ((h.members x).0 m).1) [
      | inl e ↦ subst (λ r. ComesAfter cmp r y.row) (sym e) (in_second y n).later
      | inr c ↦ (lists_total o).trans x.row row y.row c (in_second y n).later
    ]

    later_on : (z : List V) → ComesAfter cmp row z → IsLater cmp after z
    later_on z c = go after row_later
      where
        go : (a : Option (List V)) → IsLater cmp a row → IsLater cmp a z
        go None l = tt
        go (Some v) l = (lists_total o).trans v row z l c

    first_up_to : (z : Event V) → Contains xs z → IsUpTo cmp last z.row
    first_up_to z m = go last there
      where
        go : (w : Option (List V)) → ((v : List V) → w ≡ Some v → (y : Event V) × Contains ys y × (y.row ≡ v)) → IsUpTo cmp w z.row
        go None t = tt
        go (Some v) t =
            let y = t v refl in
            up_to cmp o ties (Some v) (length ranges) z.row (ap length (sym y.2) ∙ long (Some row) y.0 (in_second y.0 y.1)) (long after z (in_first z m))
            (inr (subst (λ r. ComesAfter cmp z.row r) y.2 (across z y.0 m y.1)))

    of_both : (z : Event V) → Contains (xs ++ ys) z → IsEvent cmp s ranges after z × IsUpTo cmp last z.row
    of_both z m = elim (Contains-either xs ys z m) [
      | inl a ↦ (in_first z a, first_up_to z a)
      | inr b ↦ let i = in_second z b in
          (record { within = i.within; later = later_on z.row i.later; truth_of = i.truth_of; not_false = i.not_false }, ((k.members z).0 b).1)
    ]

    in_both : (z : Event V) → IsEvent cmp s ranges after z → IsUpTo cmp last z.row → Contains (xs ++ ys) z
    in_both z i u = elim (rows_compared cmp o ties row z.row) [
      | inl e ↦ Contains-left xs ys z ((h.members z).1 (i, up_to cmp o ties (Some row) (length ranges) z.row row_long (long after z i) (inl (sym e))))
      | inr (inl c) ↦ Contains-right xs ys z ((k.members z).1 (record { within = i.within; later = c; truth_of = i.truth_of; not_false = i.not_false }, u))
      | inr (inr c) ↦ Contains-left xs ys z ((h.members z).1 (i, up_to cmp o ties (Some row) (length ranges) z.row row_long (long after z i) (inr c)))
    ]

    pub both_listed : AreEventsUpTo cmp s ranges after last (xs ++ ys)
    both_listed = record {
      ascending = AllPairs-joined (λ (e f : Event V). ComesAfter cmp e.row f.row) xs ys h.ascending k.ascending across;
      members = λ z. (of_both z, λ p. in_both z p.0 p.1);
    }

  -- ---- rows that are found, as events that hold

  module _ (told : AreTold s) (Found InDoubt : List V → Type 0) (found : (row : List V) → Found row ↔ IsEvent cmp s ranges after (with_truth row True))
      (in_doubt : (row : List V) → InDoubt row ↔ IsEvent cmp s ranges after (with_truth row Out)) (rows front : List (List V)) (row : List V) (split : rows ≡ front ++ row ∷ [])
      (members : (r : List V) → Contains rows r ↔ (Found r × IsNotPast cmp (Some row) r)) (ascending : AllPairs (ComesAfter cmp) rows)
      (certain : (r : List V) → InDoubt r → IsBefore cmp (Some row) r → ⊥) where
    abbrev pub as_event : List V → Event V
    as_event r = with_truth r True

    abbrev pub events_of : List (Event V)
    events_of = map as_event rows

    last_row : Contains rows row
    last_row = subst (λ rs. Contains rs row) (sym split) (Contains-right front (row ∷ []) row (Contains-head row []))

    found_at : (r : List V) → Contains rows r → IsEvent cmp s ranges after (with_truth r True)
    found_at r m = (found r).0 ((members r).0 m).0

    rows_long : length row ≡ length ranges
    rows_long = long after (with_truth row True) (found_at row last_row)

    rows_listed : (x : Event V) → Contains events_of x → IsEvent cmp s ranges after x × IsUpTo cmp (Some row) x.row
    rows_listed x m =
        let c = Contains-mapped as_event rows x m in
        subst (λ z. IsEvent cmp s ranges after z × IsUpTo cmp (Some row) z.row) c.2
        (found_at c.0 c.1, up_to cmp o ties (Some row) (length ranges) c.0 rows_long (long after (with_truth c.0 True) (found_at c.0 c.1)) ((members c.0).0 c.1).1)

    with_its : (x : Event V) (t : Truth) → x.truth ≡ t → x ≡ with_truth x.row t
    with_its x t e = ap (λ (u : Truth). with_truth x.row u) e

    -- no event up to there is out
    not_out : (r : List V) → IsEvent cmp s ranges after (with_truth r Out) → IsNotPast cmp (Some row) r → ⊥
    not_out r i (inl e) =
        let same = same_event s told cmp ranges after (with_truth r Out) (with_truth row True) i (found_at row last_row) e in
        let t : Out ≡ True = ap (λ (x : Event V). x.truth) same in cc
    not_out r i (inr c) = certain r ((in_doubt r).1 i) c

    listed_rows : (x : Event V) (t : Truth) → x.truth ≡ t → IsEvent cmp s ranges after x → IsNotPast cmp (Some row) x.row → Contains events_of x
    listed_rows x True e i n =
        let q = with_its x True e in
        subst (Contains events_of) (sym q) (Contains-map as_event rows x.row ((members x.row).1 ((found x.row).1 (subst (IsEvent cmp s ranges after) q i), n)))
    listed_rows x Out e i n = absurd (not_out x.row (subst (IsEvent cmp s ranges after) (with_its x Out e) i) n)
    listed_rows x False e i n = absurd (i.not_false e)

    rows_are_events : AreEventsUpTo cmp s ranges after (Some row) events_of
    rows_are_events = record {
      ascending = AllPairs-mapped as_event (λ (e f : Event V). ComesAfter cmp e.row f.row) rows ascending;
      members = λ x. (rows_listed x, λ p. listed_rows x x.truth refl p.0 (not_past cmp o ties (Some row) (length ranges) x.row rows_long (long after x p.0) p.1));
    }

    last_is_event : (x : Event V) × Contains events_of x × (x.row ≡ row)
    last_is_event = (with_truth row True, Contains-map as_event rows row last_row, refl)

    rows_hold : Hold events_of
    rows_hold = go rows
      where
        go : (rs : List (List V)) → Hold (map as_event rs)
        go [] = All-nil (λ (x : Event V). x.truth ≡ True)
        go (r ∷ rs) = All-cons (λ (x : Event V). x.truth ≡ True) (with_truth r True) (map as_event rs) refl (go rs)

    pub as_events : AreEventsUpTo cmp s ranges after (Some row) events_of × ((x : Event V) × Contains events_of x × (x.row ≡ row)) × Hold events_of
    as_events = (rows_are_events, last_is_event, rows_hold)
