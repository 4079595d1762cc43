-- What the steps of a search say of the loop over parts that are first values.
use Rattle.zf_parts.proofs.Prelude.{◌+◌, ◌<◌, ◌∙◌, ◌≡◌, [], ap, false, List, Option, refl, Some, subst, sym, true, ℕ, length, option_map, IsLater, value_order, Value, values_at, take, Appends, IfSome, unwrap_or, conjuncts_of, Goal, property, ahead_count, Status, Done, PastBounds, AppendsFront, HasLimit, IsAtStart, Wording, Schema, Environment, Advances, past, SameRanges, Stage, Takes, Breaks, Holds, AreFirst, StopsParts, WritesParts}
use Rattle.zf_lines.proofs.Searching as searching
use Rattle.zf_value.specs.contracts.plain.ValueOrd.TheImpl.Laws as order_laws
use Rattle.zf_parts.proofs.Keeping.{event_of}
use Rattle.zf_parts.proofs.Fewer.{fewer_past}
use Rattle.zf_parts.proofs.Fronting as fronting
use Rattle.zf_parts.proofs.Fronting.{Fronting}

-- of a status that is known
pub as_status : (w : Wording Value) (limit : Option ℕ) (e : Environment) (a : Schema) (b : Stage Value) (places : List ℕ) (after : Option (List Value)) (old last : Option (List ℕ))
    (status known : Status) → status ≡ known → (text : List ℕ) × WritesParts w limit e a b places after text known × Appends old last text
    → (text : List ℕ) × WritesParts w limit e a b places after text status × Appends old last text
as_status w limit e a b places after old last status known is h =
    subst (λ s. (text : List ℕ) × WritesParts w limit e a b places after text s × Appends old last text) (sym is) h

module _ (w : Wording Value) (limit : Option ℕ) (places : List ℕ) (after : Option (List Value)) (a : Schema) (g : Goal) (b : Stage Value)
    (start : IsAtStart a g b) (first : AreFirst places) (now : Goal) (c : Stage Value) (left : Option ℕ) (old new : Option (List ℕ))
    (h : Fronting w limit places after a g b now c left old new) (d : Stage Value) (values : List Value) (given : values ≡ unwrap_or d.last []) where
  shown : (row : List Value) → d.last ≡ Some row → values ≡ row
  shown row last = given ∙ ap (λ (o : Option (List Value)). unwrap_or o []) last

  passes : (row : List Value) → d.last ≡ Some row → (f : Stage Value) (count : ℕ) → count ≡ length places → IfSome d.last (λ r. f.ahead ≡ past (take count r)) → f.ahead ≡ past (take (length places) row)
  passes row last f count is h = subst (λ n. f.ahead ≡ past (take n row)) is (subst (λ o. IfSome o (λ r. f.ahead ≡ past (take count r))) last h)

  module _ (answer : Advances value_order (conjuncts_of now) Holds c d) where
    holds : (row : List Value) × (d.last ≡ Some row) × Takes value_order (property g.environment a.conjuncts) b.ranges b.after c.ahead (event_of row false) d.ahead
    holds = searching.holds a g b start c d h.same (subst (λ (f : Goal). Advances value_order (conjuncts_of f) Holds c d) h.goal answer)

    held : values ≡ holds.0
    held = shown holds.0 holds.1

    module _ (asked : IsLater value_order after (values_at places values)) where
      asked_row : IsLater value_order after (values_at places holds.0)
      asked_row = subst (λ r. IsLater value_order after (values_at places r)) held asked

      pub stops_in_line : (later : Option (List ℕ)) → AppendsFront new later (w.line (values_at places values)) → StopsParts w limit g.environment a b places after old later
      stops_in_line later front = fronting.stops_in_row w limit places after a g b start first now c left old new h d holds.0 false holds.2 asked_row refl later
          (subst (λ r. AppendsFront new later (w.line (values_at places r))) held front)

      module _ (less : Option ℕ) (later : Option (List ℕ)) (one : left ≡ option_map (λ n. n + 1) less) (appends : Appends new later (w.line (values_at places values))) where
        appended : Appends new later (w.line (values_at places holds.0))
        appended = subst (λ r. Appends new later (w.line (values_at places r))) held appends

        pub ends_at_limit : less ≡ Some 0 → (last : Option (List ℕ)) → Appends later last w.more → (text : List ℕ) × WritesParts w limit g.environment a b places after text Done × Appends old last text
        ends_at_limit spent = fronting.ends_at_limit w limit places after a g b start first now c left old new h d holds.0 false holds.2 asked_row refl less later one appended spent

        pub stops_in_more : less ≡ Some 0 → (last : Option (List ℕ)) → AppendsFront later last w.more → StopsParts w limit g.environment a b places after old last
        stops_in_more spent = fronting.stops_in_more w limit places after a g b start first now c left old new h d holds.0 false holds.2 asked_row refl less later one appended spent

        pub goes_on : HasLimit less → (f : Stage Value) (count : ℕ) → count ≡ length places → IfSome d.last (λ r. f.ahead ≡ past (take count r)) → (next : Goal) → next ≡ now → SameRanges c f
            → Fronting w limit places after a g b next f less old later
        goes_on some f count is passed next same ranges =
            fronting.goes_on w limit places after a g b start first now c left old new h d holds.0 false holds.2 f (passes holds.0 holds.1 f count is passed) next same ranges
            asked_row refl less later one some appended

    pub passes_held : (IsLater value_order after (values_at places values) → ⊥) → (f : Stage Value) (count : ℕ) → count ≡ length places
        → IfSome d.last (λ r. f.ahead ≡ past (take count r)) → (next : Goal) → next ≡ now → SameRanges c f → Fronting w limit places after a g b next f left old new
    passes_held never f count is passed next same ranges =
        fronting.goes_past w limit places after a g b start first now c left old new h d holds.0 false holds.2 f (passes holds.0 holds.1 f count is passed) next same ranges
        (subst (λ r. IsLater value_order after (values_at places r) → ⊥) held never)

    pub fewer_held : (f : Stage Value) (count : ℕ) → IfSome d.last (λ r. f.ahead ≡ past (take count r)) → f.ranges ≡ c.ranges
        → ahead_count value_order f.ranges f.ahead < ahead_count value_order c.ranges c.ahead
    fewer_held f count passed same = fewer holds.0 holds.1 holds.2 where
      fewer : (row : List Value) → d.last ≡ Some row → Takes value_order (property g.environment a.conjuncts) b.ranges b.after c.ahead (event_of row false) d.ahead
          → ahead_count value_order f.ranges f.ahead < ahead_count value_order c.ranges c.ahead
      fewer row last taken =
          subst (λ rs. ahead_count value_order rs f.ahead < ahead_count value_order c.ranges c.ahead) (sym same)
          (subst (λ rs. ahead_count value_order rs f.ahead < ahead_count value_order rs c.ahead) (sym (let s = h.same in s.ranges))
          (fewer_past value_order order_laws.total-law (property g.environment a.conjuncts) b.ranges b.after c.ahead d.ahead (event_of row false) count f.ahead taken
          (subst (λ o. IfSome o (λ r. f.ahead ≡ past (take count r))) last passed)))

  module _ (answer : Advances value_order (conjuncts_of now) Breaks c d) where
    breaks : (row : List Value) × (d.last ≡ Some row) × Takes value_order (property g.environment a.conjuncts) b.ranges b.after c.ahead (event_of row true) d.ahead
    breaks = searching.breaks a g b start c d h.same (subst (λ (f : Goal). Advances value_order (conjuncts_of f) Breaks c d) h.goal answer)

    broken : values ≡ breaks.0
    broken = shown breaks.0 breaks.1

    module _ (asked : IsLater value_order after (values_at places values)) where
      asked_out : IsLater value_order after (values_at places breaks.0)
      asked_out = subst (λ r. IsLater value_order after (values_at places r)) broken asked

      pub ends_out : (last : Option (List ℕ)) → Appends new last (w.out values) → (text : List ℕ) × WritesParts w limit g.environment a b places after text PastBounds × Appends old last text
      ends_out last out = fronting.ends_out w limit places after a g b start first now c left old new h d breaks.0 true breaks.2 asked_out refl last
          (subst (λ r. Appends new last (w.out r)) broken out)

      pub stops_in_out : (last : Option (List ℕ)) → AppendsFront new last (w.out values) → StopsParts w limit g.environment a b places after old last
      stops_in_out last out = fronting.stops_in_out w limit places after a g b start first now c left old new h d breaks.0 true breaks.2 asked_out refl last
          (subst (λ r. AppendsFront new last (w.out r)) broken out)

    pub passes_broken : (IsLater value_order after (values_at places values) → ⊥) → (f : Stage Value) (count : ℕ) → count ≡ length places
        → IfSome d.last (λ r. f.ahead ≡ past (take count r)) → (next : Goal) → next ≡ now → SameRanges c f → Fronting w limit places after a g b next f left old new
    passes_broken never f count is passed next same ranges =
        fronting.goes_past w limit places after a g b start first now c left old new h d breaks.0 true breaks.2 f (passes breaks.0 breaks.1 f count is passed) next same ranges
        (subst (λ r. IsLater value_order after (values_at places r) → ⊥) broken never)

    pub fewer_broken : (f : Stage Value) (count : ℕ) → IfSome d.last (λ r. f.ahead ≡ past (take count r)) → f.ranges ≡ c.ranges
        → ahead_count value_order f.ranges f.ahead < ahead_count value_order c.ranges c.ahead
    fewer_broken f count passed same = fewer breaks.0 breaks.1 breaks.2 where
      fewer : (row : List Value) → d.last ≡ Some row → Takes value_order (property g.environment a.conjuncts) b.ranges b.after c.ahead (event_of row true) d.ahead
          → ahead_count value_order f.ranges f.ahead < ahead_count value_order c.ranges c.ahead
      fewer row last taken =
          subst (λ rs. ahead_count value_order rs f.ahead < ahead_count value_order c.ranges c.ahead) (sym same)
          (subst (λ rs. ahead_count value_order rs f.ahead < ahead_count value_order rs c.ahead) (sym (let s = h.same in s.ranges))
          (fewer_past value_order order_laws.total-law (property g.environment a.conjuncts) b.ranges b.after c.ahead d.ahead (event_of row true) count f.ahead taken
          (subst (λ o. IfSome o (λ r. f.ahead ≡ past (take count r))) last passed)))
