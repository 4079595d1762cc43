-- What is marked of the parts that a search has met, with one event more.
use Rattle.zf_parts.proofs.Prelude.{◌<◌, ◌∙◌, ◌≡◌, ◌⊎◌, [], ap, arith, cond, false, inl, inr, length, List, Option, refl, Some, subst, sym, true, ℕ, All, Event, ComesAfter, IsLater, Truth, Out, True, value_order, Value, values_at, ◌≤◌, take, false≢true, take_all, unwrap_or, conjuncts_of, Goal, property, IsAtStart, Environment, Schema, IsRowOf-length, Advances, Ahead, IsAhead, IsEvent, SameRanges, Stage, Takes, Step, Breaks, End, Holds, Met, AreAllMarked, AreMarked, is_marked, IsFirstOf, IsNumber, Meets, ranges_at}
use Rattle.zf_lines.proofs.Searching as searching
use Rattle.zf_parts.specs.declared.marks.Marks.{Marks}
use Rattle.zf_parts.proofs.Numbering.{ascending_all, one_number}

module _ (e : Environment) (a : Schema) (ranges : List (List Value)) (named : Option (List Value)) (places : List ℕ) (after : Option (List Value)) where
  abbrev IsOne : Event Value → Type 0
  IsOne x = IsEvent value_order (property e a.conjuncts) ranges named x

  -- the part of an event is marked, if it is asked for and comes before the end
  abbrev IsDone : Met → Event Value → Type 0
  IsDone m x = IsLater value_order after (values_at places x.row) → (n : ℕ) → IsNumber (ranges_at ranges places) (values_at places x.row) n → n < m.end → is_marked m.marks n ≡ true

  module _ (c d : Ahead Value) (row : List Value) (truth : Truth) (taken : Takes value_order (property e a.conjuncts) ranges named c (record { row = row; truth = truth }) d)
      (m : Met) (h : AreMarked e a ranges named places after c m) where
    on_ahead : (x : Event Value) → IsOne x → ComesAfter value_order row x.row → IsAhead value_order d x.row
    on_ahead x i later =
        let event = taken.event in
        let long : length x.row ≡ length row = IsRowOf-length ranges x.row i.within ∙ sym (IsRowOf-length ranges row event.within) in
        let whole : take (length row) x.row ≡ x.row = take_all (length row) x.row (omega (arith, long)) in
        subst (λ w. IsAhead value_order w x.row) (sym taken.passed) (inl (subst (ComesAfter value_order row) (sym whole) later))

    -- the other events are where they were
    met_by : (new : Met) → ((x : Event Value) → IsDone m x → IsDone new x) → IsDone new (record { row = row; truth = truth }) → (x : Event Value) → IsOne x → IsAhead value_order d x.row ⊎ IsDone new x
    met_by new others this x i = elim (h.met x i) [
      | inr done ↦ inr (others x done)
      | inl k ↦ elim (taken.first x i k) [
        | inl same ↦ inr (subst (IsDone new) (sym same) this)
        | inr later ↦ inl (on_ahead x i later)
      ]
    ]

    -- nothing is marked
    passes : IsDone m (record { row = row; truth = truth }) → AreMarked e a ranges named places after d m
    passes done = record { ascending = h.ascending; weights = h.weights; low = h.low; ends = h.ends; met = met_by m (λ x k. k) done; holds = h.holds }

    pub not_asked : (IsLater value_order after (values_at places row) → ⊥) → AreMarked e a ranges named places after d m
    not_asked never = passes (λ later n k l. absurd (never later))

    module _ (n : ℕ) (number : IsNumber (ranges_at ranges places) (values_at places row) n) where
      same_number : (k : ℕ) → IsNumber (ranges_at ranges places) (values_at places row) k → k ≡ n
      same_number k is =
          let weighs = h.weights in
          one_number (ranges_at ranges places) (values_at places row) k n (ascending_all ranges places h.ascending weighs.below) is number

      pub past_end : m.end ≤ n → AreMarked e a ranges named places after d m
      past_end far = passes (λ later k is l. absurd (omega (arith, far, l, same_number k is)))

      pub known : is_marked m.marks n ≡ true → AreMarked e a ranges named places after d m
      known there = passes (λ later k is l. ap (is_marked m.marks) (same_number k is) ∙ there)

      module _ (near : n < m.end) (fresh : is_marked m.marks n ≡ false) (later : IsLater value_order after (values_at places row)) where
        is_first : IsFirstOf e a ranges named places after n (record { row = row; truth = truth })
        is_first = record {
          event = taken.event;
          asked = later;
          number = number;
          first = λ y i same. elim (h.met y i) [
            | inl k ↦ taken.first y i k
            | inr done ↦ absurd (false≢true (sym fresh ∙ done (subst (IsLater value_order after) (sym same) later) n
                (subst (λ vs. IsNumber (ranges_at ranges places) vs n) (sym same) number) near))
          ];
        }

        -- it is marked
        pub marks_one : truth ≡ True → (marks : Marks) → is_marked marks n ≡ true → ((k : ℕ) → (k ≡ n) ⊎ (is_marked marks k ≡ is_marked m.marks k))
            → AreMarked e a ranges named places after d (record { weights = m.weights; marks = marks; end = m.end; out = m.out })
        marks_one true_now marks there others = record {
          ascending = h.ascending;
          weights = h.weights;
          low = h.low;
          ends = h.ends;
          met = met_by (record { weights = m.weights; marks = marks; end = m.end; out = m.out })
              (λ x done asked k is l. elim (others k) [ inl one ↦ ap (is_marked marks) one ∙ there | inr same ↦ same ∙ done asked k is l ])
              (λ asked k is l. ap (is_marked marks) (same_number k is) ∙ there);
          holds = λ k l marked. elim (others k) [
            | inl one ↦ (
              record { row = row; truth = truth },
              subst (λ j. IsFirstOf e a ranges named places after j (record { row = row; truth = truth })) (sym one) is_first,
              true_now,
            )
            | inr same ↦ h.holds k l (sym same ∙ marked)
          ];
        }

        -- it is the end
        pub ends_there : truth ≡ Out → AreMarked e a ranges named places after d (record { weights = m.weights; marks = m.marks; end = n; out = Some row })
        ends_there out_now = record {
          ascending = h.ascending;
          weights = h.weights;
          low = let low = h.low in omega (arith, near, low);
          ends = (record { row = row; truth = truth }, is_first, out_now, refl);
          met = met_by (record { weights = m.weights; marks = m.marks; end = n; out = Some row })
              (λ x done asked k is l. done asked k is (omega (arith, l, near)))
              (λ asked k is l. absurd (omega (arith, l, same_number k is)));
          holds = λ k l marked. h.holds k (omega (arith, l, near)) marked;
        }

-- ---- the search

-- what is marked is of what is passed
pub record Meeting (places : List ℕ) (after : Option (List Value)) (a : Schema) (g : Goal) (b : Stage Value) (now : Goal) (c : Stage Value) (m : Met) : Type 0 where
  pub marked : AreMarked g.environment a b.ranges b.after places after c.ahead m
  pub goal : now ≡ g
  pub same : SameRanges b c

module _ (places : List ℕ) (after : Option (List Value)) (a : Schema) (g : Goal) (b : Stage Value) (start : IsAtStart a g b) where
  module _ (now : Goal) (c : Stage Value) (m : Met) (h : Meeting places after a g b now c m) (d : Stage Value) where
    by_goal : (step : Step) → Advances value_order (conjuncts_of now) step c d → Advances value_order (conjuncts_of g) step c d
    by_goal step answer = subst (λ (f : Goal). Advances value_order (conjuncts_of f) step c d) h.goal answer

    module _ (ranges : SameRanges c d) (over : List (List Value)) (spread : over ≡ d.ranges) where
      over_is : over ≡ b.ranges
      over_is = let before = h.same in spread ∙ ranges.ranges ∙ before.ranges

      module _ (values : List Value) (given : values ≡ unwrap_or d.last []) where
        within_row : (row : List Value) → d.last ≡ Some row → (length row ≡ length b.ranges) → All (λ p. p < length values) places
        within_row row last long =
            let marked = h.marked in
            let weighs = marked.weights in
            let shown : values ≡ row = given ∙ ap (λ (o : Option (List Value)). unwrap_or o []) last in
            λ k p l. let near = weighs.below k p l in omega (arith, near, long, ap length shown)

        pub within_holding : Advances value_order (conjuncts_of now) Holds c d → All (λ p. p < length values) places
        within_holding answer =
            let (row, last, t) = searching.holds a g b start c d h.same (by_goal Holds answer) in
            let event = t.event in
            within_row row last (IsRowOf-length b.ranges row event.within)

        pub within_breaking : Advances value_order (conjuncts_of now) Breaks c d → All (λ p. p < length values) places
        within_breaking answer =
            let (row, last, t) = searching.breaks a g b start c d h.same (by_goal Breaks answer) in
            let event = t.event in
            within_row row last (IsRowOf-length b.ranges row event.within)

        module _ (new : Met) (later : Goal) (same : later ≡ now) where
          goes_on : (row : List Value) (truth : Truth) → d.last ≡ Some row
              → Takes value_order (property g.environment a.conjuncts) b.ranges b.after c.ahead (record { row = row; truth = truth }) d.ahead
              → Meets values over truth places after m new → Meeting places after a g b later d new
          goes_on row truth last taken meets =
              let shown : values ≡ row = given ∙ ap (λ (o : Option (List Value)). unwrap_or o []) last in
              record {
                marked = subst (λ rs. Meets values rs truth places after m new) over_is meets g.environment a b.after c.ahead d.ahead
                    (subst (λ vs. Takes value_order (property g.environment a.conjuncts) b.ranges b.after c.ahead (record { row = vs; truth = truth }) d.ahead) (sym shown) taken) h.marked;
                goal = same ∙ h.goal;
                same = searching.same_later b c d h.same ranges;
              }

          pub goes_on_holding : Advances value_order (conjuncts_of now) Holds c d → Meets values over (cond false Out True) places after m new → Meeting places after a g b later d new
          goes_on_holding answer meets =
              let (row, last, t) = searching.holds a g b start c d h.same (by_goal Holds answer) in goes_on row True last t meets

          pub goes_on_breaking : Advances value_order (conjuncts_of now) Breaks c d → Meets values over (cond true Out True) places after m new → Meeting places after a g b later d new
          goes_on_breaking answer meets =
              let (row, last, t) = searching.breaks a g b start c d h.same (by_goal Breaks answer) in goes_on row Out last t meets

    pub all_met : Advances value_order (conjuncts_of now) End c d → AreAllMarked g.environment a b places after m
    all_met answer =
        let marked = h.marked in
        let none = searching.none_left a g b start c d h.same (by_goal End answer) in
        record {
          ascending = marked.ascending;
          weights = marked.weights;
          low = marked.low;
          ends = marked.ends;
          met = λ x i. elim (marked.met x i) [ inl k ↦ absurd (none x i k) | inr done ↦ inr done ];
          holds = marked.holds;
        }
