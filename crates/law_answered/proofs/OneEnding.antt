-- Of one search there is one list of events up to where the lines end, one text of it and one status.
use Rattle.law_answered.proofs.Prelude.{◌++◌, ◌+◌, ◌<◌, ◌∙◌, ◌∷◌, ◌≡◌, ◌≤◌, ◌⊎◌, [], ap, arith, inl, inr, length, List, None, Option, refl, Some, subst, sym, take, ℕ, All-contains, IsTotalOrder, lists_total, slice_cmp, AllPairs, Contains, Ordering, AllPairs-across, Contains-head, Contains-right, IsRowOf-length, Conjuncts, IsTruthOf, Event, IsEvent, ComesAfter, TiesAreEqual, IsUpTo, Truth, Out, True, AreEventsUpTo, Hold, IsBelow, IsNotAbove, IsWritten, Status, AreTold, one_truth_of, Wording, length-append, append-nil}
use Rattle.std.specs.declared.cmp.Ordering.TheVariants.{Less, Equal, Greater}
use Rattle.std.specs.Ordering.{ordering_reverse}
use Rattle.zf_walk.proofs.Order.{slice-ties}
use Rattle.law_answered.proofs.Rows.{nothing_more, before_last, same_last, All-front, one_begins}

-- ---- what is written of events

within_below : (limit : Option ℕ) (n : ℕ) → IsBelow limit n → IsNotAbove limit (n + 1)
within_below None n h = tt
within_below (Some l) n h = omega arith

within_of : (limit : Option ℕ) (m n : ℕ) → m ≤ n → IsNotAbove limit n → IsNotAbove limit m
within_of None m n le h = tt
within_of (Some l) m n le h = omega arith

module _ {V : Type 0} (telling : Wording V) (limit : Option ℕ) where
  -- an event that is out does not hold
  pub held : (events : List (Event V)) (e : Event V) → Hold events → Contains events e → e.truth ≡ Out → ⊥
  held events e h m out = let t : e.truth ≡ True = All-contains (λ (x : Event V). x.truth ≡ True) events e h m in let c : True ≡ Out = sym t ∙ out in cc

  pub last_of : (front : List (Event V)) (e : Event V) → Contains (front ++ e ∷ []) e
  last_of front e = Contains-right front (e ∷ []) e (Contains-head e [])

  -- no more events than the limit are written, or reported as out
  few : (events : List (Event V)) (last : Option (List V)) (text : List ℕ) (status : Status) → IsWritten telling limit events last text status → IsNotAbove limit (length events)
  few events last text status (IsWritten.pauses front e is up hold reached told done) = subst (λ l. IsNotAbove l (length events)) (sym reached) (omega arith)
  few events last text status (IsWritten.breaks front e is up hold out below told past) =
      let n : length events ≡ length front + 1 = ap length is ∙ length-append front (e ∷ []) in
      subst (IsNotAbove limit) (sym n) (within_below limit (length front) below)
  few events last text status (IsWritten.ends none hold below told done) = within_of limit (length events) (length events + 1) (omega arith) (within_below limit (length events) below)

  -- each event before another one holds
  hold_before : (events : List (Event V)) (last : Option (List V)) (text : List ℕ) (status : Status) → IsWritten telling limit events last text status
      → (us : List (Event V)) (m : Event V) (vs : List (Event V)) → events ≡ us ++ m ∷ vs → Hold us
  hold_before events last text status (IsWritten.pauses front e is up hold reached told done) us m vs q = All-front (λ x. x.truth ≡ True) us (m ∷ vs) (subst Hold q hold)
  hold_before events last text status (IsWritten.breaks front e is up hold out below told past) us m vs q =
      let b = before_last us m vs front e (sym q ∙ is) in
      All-front (λ x. x.truth ≡ True) us b.0 (subst Hold b.1 hold)
  hold_before events last text status (IsWritten.ends none hold below told done) us m vs q = All-front (λ x. x.truth ≡ True) us (m ∷ vs) (subst Hold q hold)

  pub record AreOneEnd (last other_last : Option (List V)) (text other : List ℕ) (status other_status : Status) : Type 0 where
    pub lasts : last ≡ other_last
    pub texts : text ≡ other
    pub statuses : status ≡ other_status

  -- the same events end in one way
  pub one_end : (events : List (Event V)) (last other_last : Option (List V)) (text other : List ℕ) (status other_status : Status)
      → IsWritten telling limit events last text status → IsWritten telling limit events other_last other other_status → AreOneEnd last other_last text other status other_status
  one_end events last other_last text other status other_status (IsWritten.pauses front e is up hold reached told done)
      (IsWritten.pauses other_front f other_is other_up other_hold other_reached other_told other_done) =
      let same = same_last front other_front e f (sym is ∙ other_is) in
      record { lasts = up ∙ ap (λ (x : Event V). Some x.row) same.1 ∙ sym other_up; texts = told ∙ sym other_told; statuses = done ∙ sym other_done }
  one_end events last other_last text other status other_status (IsWritten.pauses front e is up hold reached told done)
      (IsWritten.breaks other_front f other_is other_up other_hold out below other_told past) =
      absurd (held events f hold (subst (λ es. Contains es f) (sym other_is) (last_of other_front f)) out)
  one_end events last other_last text other status other_status (IsWritten.pauses front e is up hold reached told done) (IsWritten.ends none other_hold below other_told other_done) =
      absurd (let b : length events < length events = subst (λ l. IsBelow l (length events)) reached below in omega arith)
  one_end events last other_last text other status other_status (IsWritten.breaks front e is up hold out below told past)
      (IsWritten.pauses other_front f other_is other_up other_hold other_reached other_told other_done) =
      absurd (held events e other_hold (subst (λ es. Contains es e) (sym is) (last_of front e)) out)
  one_end events last other_last text other status other_status (IsWritten.breaks front e is up hold out below told past)
      (IsWritten.breaks other_front f other_is other_up other_hold other_out other_below other_told other_past) =
      let same = same_last front other_front e f (sym is ∙ other_is) in
      record { lasts = up ∙ ap (λ (x : Event V). Some x.row) same.1 ∙ sym other_up; texts = cc; statuses = past ∙ sym other_past }
  one_end events last other_last text other status other_status (IsWritten.breaks front e is up hold out below told past) (IsWritten.ends none other_hold other_below other_told other_done) =
      absurd (held events e other_hold (subst (λ es. Contains es e) (sym is) (last_of front e)) out)
  one_end events last other_last text other status other_status (IsWritten.ends none hold below told done)
      (IsWritten.pauses other_front f other_is other_up other_hold other_reached other_told other_done) =
      absurd (let b : length events < length events = subst (λ l. IsBelow l (length events)) other_reached below in omega arith)
  one_end events last other_last text other status other_status (IsWritten.ends none hold below told done)
      (IsWritten.breaks other_front f other_is other_up other_hold out other_below other_told past) =
      absurd (held events f hold (subst (λ es. Contains es f) (sym other_is) (last_of other_front f)) out)
  one_end events last other_last text other status other_status (IsWritten.ends none hold below told done) (IsWritten.ends other_none other_hold other_below other_told other_done) =
      record { lasts = none ∙ sym other_none; texts = told ∙ sym other_told; statuses = done ∙ sym other_done }

-- ---- the event of a row is one

module _ {V : Type 0} (s : Conjuncts V) (told : AreTold s) where
  pub same_event : (cmp : V → V → Ordering) (ranges : List (List V)) (after : Option (List V)) (e f : Event V) → IsEvent cmp s ranges after e → IsEvent cmp s ranges after f → e.row ≡ f.row → e ≡ f
  same_event cmp ranges after e f h k q =
      let t : e.truth ≡ f.truth = one_truth_of s told f.row e.truth f.truth (subst (λ r. IsTruthOf s r e.truth) q h.truth_of) k.truth_of in
      ap (λ r. record { row = r; truth = e.truth }) q ∙ ap (λ (u : Truth). record { row = f.row; truth = u }) t

-- ---- events up to a row

module _ {V : Type 0} (cmp : V → V → Ordering) (o : IsTotalOrder cmp) (ties : TiesAreEqual cmp) where
  abbrev pub Follows : Event V → Event V → Type 0
  Follows e f = ComesAfter cmp e.row f.row

  pub never_both : (a b : List V) → ComesAfter cmp a b → ComesAfter cmp b a → ⊥
  never_both a b h k = let e : slice_cmp cmp a b ≡ Greater = (lists_total o).antisymm a b ∙ ap ordering_reverse k in let f : Less ≡ Greater = sym h ∙ e in cc

  pub never_itself : (a : List V) → ComesAfter cmp a a → ⊥
  never_itself a h = never_both a a h h

  -- one of two rows is the greater one, or they are one
  pub rows_compared : (a b : List V) → (a ≡ b) ⊎ (ComesAfter cmp a b ⊎ ComesAfter cmp b a)
  rows_compared a b = go (slice_cmp cmp a b) refl
    where
      go : (q : Ordering) → slice_cmp cmp a b ≡ q → (a ≡ b) ⊎ (ComesAfter cmp a b ⊎ ComesAfter cmp b a)
      go Less e = inr (inl e)
      go Equal e = inl (slice-ties cmp o ties a b e)
      go Greater e = inr (inr ((lists_total o).antisymm b a ∙ ap ordering_reverse e))

  -- what comes before a row that is not past the last one is not past it
  pub up_to_before : (whole : Option (List V)) (a b : List V) → length a ≡ length b → ComesAfter cmp a b → IsUpTo cmp whole b → IsUpTo cmp whole a
  up_to_before None a b l c u = tt
  up_to_before (Some whole) a b l c u = λ less. u (subst (λ n. slice_cmp cmp (take n whole) b ≡ Less) l ((lists_total o).trans (take (length a) whole) a b less c))

  module _ (s : Conjuncts V) (told : AreTold s) (ranges : List (List V)) (after : Option (List V)) where
    module _ (xs ys : List (Event V)) (last other_last : Option (List V)) (h : AreEventsUpTo cmp s ranges after last xs) (k : AreEventsUpTo cmp s ranges after other_last ys) where
      is_x : (x : Event V) → Contains xs x → IsEvent cmp s ranges after x
      is_x x m = ((h.members x).0 m).0

      is_y : (y : Event V) → Contains ys y → IsEvent cmp s ranges after y
      is_y y m = ((k.members y).0 m).0

      -- their rows are of one length
      as_long : (x y : Event V) → IsEvent cmp s ranges after x → IsEvent cmp s ranges after y → length x.row ≡ length y.row
      as_long x y i j = IsRowOf-length ranges x.row i.within ∙ sym (IsRowOf-length ranges y.row j.within)

      -- one of the lists begins with the other
      pub begins : ((more : List (Event V)) × (ys ≡ xs ++ more)) ⊎ ((more : List (Event V)) × (xs ≡ ys ++ more))
      begins = one_begins Follows (λ x y r q. never_both x.row y.row r q) xs ys h.ascending k.ascending
          (λ x y m n. elim (rows_compared x.row y.row) [ inl e ↦ inl (same_event s told cmp ranges after x y (is_x x m) (is_y y n) e) | inr r ↦ inr r ])
          (λ x y m n r. (k.members x).1 (is_x x m, up_to_before other_last x.row y.row (as_long x y (is_x x m) (is_y y n)) r ((k.members y).0 n).1))
          (λ x y m n r. (h.members y).1 (is_y y n, up_to_before last y.row x.row (as_long y x (is_y y n) (is_x x m)) r ((h.members x).0 m).1))

      -- where the lines end at the end of the first list, the second is no longer
      pub no_more : (telling : Wording V) (limit : Option ℕ) (text other : List ℕ) (status other_status : Status) (more : List (Event V)) → ys ≡ xs ++ more
          → IsWritten telling limit xs last text status → IsWritten telling limit ys other_last other other_status → more ≡ []
      no_more telling limit text other status other_status [] q w v = refl
      no_more telling limit text other status other_status (m ∷ more) q (IsWritten.pauses front e is up hold reached told done) v =
          let f : length ys ≤ length xs = subst (λ l. IsNotAbove l (length ys)) reached (few telling limit ys other_last other other_status v) in
          nothing_more xs (m ∷ more) (subst (λ zs. length zs ≤ length xs) q f)
      no_more telling limit text other status other_status (m ∷ more) q (IsWritten.breaks front e is up hold out below told past) v =
          absurd (held telling limit xs e (hold_before telling limit ys other_last other other_status v xs m more q) (subst (λ es. Contains es e) (sym is) (last_of telling limit front e)) out)
      no_more telling limit text other status other_status (m ∷ more) q (IsWritten.ends none hold below told done) v =
          let n : Contains ys m = subst (λ zs. Contains zs m) (sym q) (Contains-right xs (m ∷ more) m (Contains-head m more)) in
          let there : Contains xs m = (h.members m).1 (is_y m n, subst (λ w. IsUpTo cmp w m.row) (sym none) tt) in
          absurd (never_itself m.row (AllPairs-across Follows xs (m ∷ more) (subst (λ zs. AllPairs Follows zs) q k.ascending) m m there (Contains-head m more)))

    -- there is one list of events up to where the lines end
    pub one_list_up_to : (telling : Wording V) (limit : Option ℕ) (xs ys : List (Event V)) (last other_last : Option (List V)) (text other : List ℕ) (status other_status : Status)
        → AreEventsUpTo cmp s ranges after last xs → AreEventsUpTo cmp s ranges after other_last ys
        → IsWritten telling limit xs last text status → IsWritten telling limit ys other_last other other_status → xs ≡ ys
    one_list_up_to telling limit xs ys last other_last text other status other_status h k w v = elim (begins xs ys last other_last h k) [
      | inl m ↦ sym (m.1 ∙ ap (λ more. xs ++ more) (no_more xs ys last other_last h k telling limit text other status other_status m.0 m.1 w v) ∙ append-nil xs)
      | inr m ↦ m.1 ∙ ap (λ more. ys ++ more) (no_more ys xs other_last last k h telling limit other text other_status status m.0 m.1 v w) ∙ append-nil ys
    ]

    pub one_ending : (telling : Wording V) (limit : Option ℕ) (xs ys : List (Event V)) (last other_last : Option (List V)) (text other : List ℕ) (status other_status : Status)
        → AreEventsUpTo cmp s ranges after last xs → AreEventsUpTo cmp s ranges after other_last ys
        → IsWritten telling limit xs last text status → IsWritten telling limit ys other_last other other_status → AreOneEnd telling limit last other_last text other status other_status
    one_ending telling limit xs ys last other_last text other status other_status h k w v =
        one_end telling limit xs last other_last text other status other_status w
        (subst (λ es. IsWritten telling limit es other_last other other_status) (sym (one_list_up_to telling limit xs ys last other_last text other status other_status h k w v)) v)
