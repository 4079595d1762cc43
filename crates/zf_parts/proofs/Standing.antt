-- Where the search for parts stands.
use Rattle.zf_parts.proofs.Prelude.{◌++◌, ◌∙◌, ◌∷◌, ◌≡◌, [], ap, Bool, false, List, Option, refl, Some, subst, sym, true, ℕ, Event, value_order, Value, unwrap_or, conjuncts_of, Goal, property, IsAtStart, Schema, Advances, SameRanges, Stage, Takes, Step, Breaks, End, Holds, AreCollected, KeepParts}
use Rattle.zf_lines.proofs.Behind.{Behind, none_behind, one_behind, up_to_end}
use Rattle.zf_lines.proofs.Searching as searching
use Rattle.zf_value.specs.contracts.plain.ValueOrd.TheImpl.Laws as order_laws
use Rattle.zf_parts.proofs.Growing.{no_parts}
use Rattle.zf_parts.proofs.Keeping.{Adds, Entry, event_of}

-- the parts of the events that are passed are kept
pub record Standing (places : List ℕ) (after : Option (List Value)) (a : Schema) (g : Goal) (b : Stage Value) (now : Goal) (c : Stage Value) (entries : List Entry) : Type 0 where
  pub events : List (Event Value)
  pub behind : Behind value_order (property g.environment a.conjuncts) b.ranges b.after c.ahead events
  pub kept : KeepParts places after events entries
  pub goal : now ≡ g
  pub same : SameRanges b c

module _ (places : List ℕ) (after : Option (List Value)) (a : Schema) (g : Goal) (b : Stage Value) (start : IsAtStart a g b) where
  pub stands_first : (entries : List Entry) → entries ≡ [] → Standing places after a g b g b entries
  stands_first entries none = record {
    events = [];
    behind = none_behind value_order (property g.environment a.conjuncts) b.ranges b.after b.ahead start.ahead;
    kept = subst (KeepParts places after []) (sym none) ([], no_parts places after, tt);
    goal = refl;
    same = record { ranges = refl; after = refl };
  }

  module _ (now : Goal) (c : Stage Value) (entries : List Entry) (h : Standing places after a g b now c entries) (d : Stage Value) where
    by_goal : (step : Step) → Advances value_order (conjuncts_of now) step c d → Advances value_order (conjuncts_of g) step c d
    by_goal step answer = subst (λ (f : Goal). Advances value_order (conjuncts_of f) step c d) h.goal answer

    module _ (row : List Value) (values : List Value) (given : values ≡ unwrap_or d.last []) (last : d.last ≡ Some row) (is_out : Bool)
        (taken : Takes value_order (property g.environment a.conjuncts) b.ranges b.after c.ahead (event_of row is_out) d.ahead) where
      goes_on : (more : List Entry) → Adds places after values is_out entries more → (later : Goal) → later ≡ now → SameRanges c d → Standing places after a g b later d more
      goes_on more adds later same ranges =
          let shown : values ≡ row = given ∙ ap (λ (o : Option (List Value)). unwrap_or o []) last in
          let next = subst (λ vs. Adds places after vs is_out entries more) shown adds in
          record {
            events = h.events ++ event_of row is_out ∷ [];
            behind = one_behind value_order (property g.environment a.conjuncts) b.ranges b.after order_laws.total-law c.ahead d.ahead h.events (event_of row is_out) taken h.behind;
            kept = let behind = h.behind in next h.events behind.ascending (λ x m. behind.before x (event_of row is_out) m taken.event taken.ahead) h.kept;
            goal = same ∙ h.goal;
            same = searching.same_later b c d h.same ranges;
          }

    module _ (values : List Value) (given : values ≡ unwrap_or d.last []) (more : List Entry) (later : Goal) (same : later ≡ now) (ranges : SameRanges c d) where
      pub goes_on_holding : Advances value_order (conjuncts_of now) Holds c d → Adds places after values false entries more → Standing places after a g b later d more
      goes_on_holding answer adds =
          let t = searching.holds a g b start c d h.same (by_goal Holds answer) in
          goes_on t.0 values given t.1 false t.2 more adds later same ranges

      pub goes_on_breaking : Advances value_order (conjuncts_of now) Breaks c d → Adds places after values true entries more → Standing places after a g b later d more
      goes_on_breaking answer adds =
          let t = searching.breaks a g b start c d h.same (by_goal Breaks answer) in
          goes_on t.0 values given t.1 true t.2 more adds later same ranges

    pub ends_here : Advances value_order (conjuncts_of now) End c d → AreCollected g.environment a b places after entries
    ends_here answer =
        let (parts, are, k) = h.kept in (
          parts,
          record {
            events = h.events;
            listed = up_to_end value_order (property g.environment a.conjuncts) b.ranges b.after c.ahead h.events (searching.none_left a g b start c d h.same (by_goal End answer)) h.behind;
            are = are;
          },
          k,
        )
