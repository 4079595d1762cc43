-- What a search comes to, in the turn of a node.
use Rattle.zf_steps.proofs.Prelude.{◌++◌, ◌+◌, ◌∙◌, ◌∷◌, ◌≡◌, [], ap, arith, Bool, inl, inr, List, map, None, Option, refl, Some, subst, suc, sym, take, ℕ, slice_get, AreFinds, AreFirst, BeginsParts, BeginsTurn, BreaksParts, BreaksTurn, EachHolds, HasParts, Turn, with_edge, begins_in_part, breaks_in_part, one_more_part, Value, value_order, Contains-cases, Contains-either, Contains-nil, Out, True, Conjuncts, Ahead, Event, IsEvent, IsNoneAhead, SameRanges, Stage, Takes, property, AreRanges, Label, Node, BeginsFor, HasFound, HasPassed, held_by, IsFoundAt, never_both, Operation, parts_of, searched, step, stop, System, values_of}
use Rattle.std.proofs.lemmas.List.{append-nil, append_assoc, map-append}
use Rattle.zf_value.specs.contracts.plain.ValueOrd.TheImpl.Laws as order_laws
use Rattle.zf_enum.proofs.EventLaws.{one_ranges}
use Rattle.zf_lines.proofs.Behind.{Behind, none_behind, one_behind}

module _ (m : System) (eq : Node → Node → Bool) (a : Node) (number : ℕ) (o : Operation) where
  abbrev conjuncts : Conjuncts Value
  conjuncts = property m.environment o.schema.conjuncts

  abbrev held : List (Option Value)
  held = held_by o.sources (values_of m a)

  module _ (ranges : List (List Value)) (are : AreRanges m.environment o.schema.comps held ranges) where
    -- what is an event in the ranges is found at the node
    pub found_at : (x : Event Value) → IsEvent value_order conjuncts ranges None x → IsFoundAt m a o x
    found_at x i = record { ranges = ranges; of_components = are; is = i }

    pub event_in : (x : Event Value) → IsFoundAt m a o x → IsEvent value_order conjuncts ranges None x
    event_in x h = subst (λ rs. IsEvent value_order conjuncts rs None x) (one_ranges m.environment o.schema held h.ranges ranges h.of_components are) h.is

    -- what a search has after it is found first
    first_behind : (ahead : Ahead Value) (xs : List (Event Value)) → Behind value_order conjuncts ranges None ahead xs → AreFirst (searched m eq) a o xs
    first_behind ahead xs h = record {
      ascending = h.ascending;
      are = λ x i. found_at x (h.are x i);
      first = λ x y i f c. elim (h.covered y (event_in y f)) [
        | inl k ↦ k
        | inr k ↦ absurd (never_both x.row y.row (h.before x y i (event_in y f) k) c)
      ];
    }

    all_behind : (ahead : Ahead Value) (xs : List (Event Value)) → Behind value_order conjuncts ranges None ahead xs
        → IsNoneAhead value_order conjuncts ranges None ahead → AreFinds (searched m eq) a o xs
    all_behind ahead xs h none = record {
      ascending = h.ascending;
      members = λ x. (
        (λ i. found_at x (h.are x i)),
        (λ f. elim (h.covered x (event_in x f)) [ inl k ↦ k | inr k ↦ absurd (none x (event_in x f) k) ]),
      );
    }

  -- a search that is begun
  pub started : (b : Stage Value) (now : Turn Node Label) → slice_get (parts_of m a) number ≡ Some o → BeginsFor m.environment o.schema held b
      → HasPassed m eq a number now → HasFound m eq a number o b now
  started b now at begins passed = record {
    stands = at;
    of_components = begins.ranges;
    named = begins.named;
    done = now.edges;
    whole = passed.1;
    found = [];
    behind = none_behind value_order conjuncts b.ranges None b.ahead begins.ahead;
    hold = λ x i. absurd (Contains-nil x i);
    stray = passed.0;
    edges = sym (append-nil now.edges);
  }

  module _ (b d : Stage Value) (now : Turn Node Label) (h : HasFound m eq a number o b now) (same : SameRanges b d) where
    taken_of : (e : Event Value) → Takes value_order conjuncts b.ranges b.after b.ahead e d.ahead → Takes value_order conjuncts b.ranges None b.ahead e d.ahead
    taken_of e t = subst (λ n. Takes value_order conjuncts b.ranges n b.ahead e d.ahead) h.named t

    holds_more : (x : Event Value) → x.truth ≡ True → EachHolds (searched m eq) (h.found ++ x ∷ [])
    holds_more x is y i = elim (Contains-either h.found (x ∷ []) y i) [
      | inl k ↦ h.hold y k
      | inr k ↦ elim (Contains-cases x [] y k) [ inl e ↦ ap (λ (z : Event Value). z.truth) (sym e) ∙ is | inr n ↦ absurd (Contains-nil y n) ]
    ]

    numbered : 0 + number ≡ number
    numbered = omega arith

    -- a step more
    module _ (row : List Value) (t : Takes value_order conjuncts b.ranges b.after b.ahead (record { row = row; truth = True }) d.ahead) where
      abbrev x : Event Value
      x = record { row = row; truth = True }

      longer : Behind value_order conjuncts b.ranges None d.ahead (h.found ++ x ∷ [])
      longer = one_behind value_order conjuncts b.ranges None order_laws.total-law b.ahead d.ahead h.found x (taken_of x t) h.behind

      edges_more : (with_edge now (step m number o x)).edges ≡ h.done ++ map (step m number o) (h.found ++ x ∷ [])
      edges_more = ap (λ es. es ++ step m number o x ∷ []) h.edges ∙ append_assoc h.done (map (step m number o) h.found) (step m number o x ∷ [])
          ∙ ap (λ es. h.done ++ es) (sym (map-append (step m number o) h.found (x ∷ [])))

      pub goes_on : HasFound m eq a number o d (with_edge now (step m number o x))
      goes_on = record {
        stands = h.stands;
        of_components = subst (AreRanges m.environment o.schema.comps held) (sym same.ranges) h.of_components;
        named = same.after ∙ h.named;
        done = h.done;
        whole = h.whole;
        found = h.found ++ x ∷ [];
        behind = subst (λ rs. Behind value_order conjuncts rs None d.ahead (h.found ++ x ∷ [])) (sym same.ranges) longer;
        hold = holds_more x refl;
        stray = h.stray;
        edges = edges_more;
      }

      -- the turn begins so
      pub begins_so : BeginsTurn (searched m eq) a (with_edge now (step m number o x))
      begins_so =
          let part = begins_in_part (searched m eq) a 0 (parts_of m a) number o h.done (h.found ++ x ∷ []) h.stands h.whole
          (first_behind b.ranges h.of_components d.ahead (h.found ++ x ∷ []) longer) (holds_more x refl) in (
            h.stray,
            subst (BeginsParts (searched m eq) a 0 (parts_of m a)) (ap (λ n. h.done ++ map (step m n o) (h.found ++ x ∷ [])) numbered
                ∙ sym edges_more) part,
          )

    -- a step that can't be decided
    pub breaks_so : (row : List Value) → Takes value_order conjuncts b.ranges b.after b.ahead (record { row = row; truth = Out }) d.ahead
        → BreaksTurn (searched m eq) a now (stop m o (record { row = row; truth = Out }))
    breaks_so row t =
        let x : Event Value = record { row = row; truth = Out } in
        let longer = one_behind value_order conjuncts b.ranges None order_laws.total-law b.ahead d.ahead h.found x (taken_of x t) h.behind in
        let part = breaks_in_part (searched m eq) a 0 (parts_of m a) number o h.done h.found x h.stands h.whole
        (first_behind b.ranges h.of_components d.ahead (h.found ++ x ∷ []) longer) h.hold refl in
        inr (
          h.stray,
          subst (λ es. BreaksParts (searched m eq) a 0 (parts_of m a) es (stop m o x)) (ap (λ n. h.done ++ map (step m n o) h.found) numbered
              ∙ sym h.edges) part,
        )

    -- no step more
    pub all_passed : IsNoneAhead value_order conjuncts b.ranges b.after b.ahead → HasPassed m eq a (suc number) now
    all_passed none =
        let all = all_behind b.ranges h.of_components b.ahead h.found h.behind
        (subst (λ n. IsNoneAhead value_order conjuncts b.ranges n b.ahead) h.named none) in
        let more = one_more_part (searched m eq) a 0 (parts_of m a) number o h.done h.found h.stands h.whole all h.hold in (
          h.stray,
          subst (HasParts (searched m eq) a 0 (take (suc number) (parts_of m a))) (ap (λ n. h.done ++ map (step m n o) h.found) numbered
              ∙ sym h.edges) more,
        )
