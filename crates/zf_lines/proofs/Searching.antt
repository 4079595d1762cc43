-- What the steps of a search say of its schema, wherever it stands.
use Rattle.zf_lines.proofs.Prelude.{◌++◌, ◌<◌, ◌∙◌, ◌≡◌, [], ap, append-nil, append_assoc, Bool, false, inl, inr, List, Option, refl, Some, subst, sym, ℕ, Appends, unwrap_or, Conjuncts, Event, Advances, IsNoneAhead, SameRanges, Stage, Takes, Out, True, Breaks, End, Holds, value_order, Value, Schema, Environment, property, conjuncts_of, Goal, ending_status, EndsBy, IsEnd, last_text, AppendsFront, AreEventsUpTo, IsWritten, lines, FindsEvents, IsAtStart, StopsLines, TellsTests, Wording, WritesAll}
use Rattle.zf_plan.proofs.Alike.{advances}
use Rattle.zf_lines.specs.declared.ending.Ending as ending
use Rattle.zf_lines.specs.declared.ending.Ending.TheVariants as endings
use Rattle.zf_lines.proofs.Fewer.{ahead_count, one_fewer}
use Rattle.zf_lines.proofs.Lines.{IsFirst}
use Rattle.zf_value.specs.contracts.plain.ValueOrd.TheImpl.Laws as order_laws

-- fewer rows are ahead after a step that gives one
pub goes_on : (g : Goal) (c d : Stage Value) → SameRanges c d → Advances value_order (conjuncts_of g) Holds c d → ahead_count value_order d.ranges d.ahead < ahead_count value_order c.ranges c.ahead
goes_on g c d next (row, last, t) =
    subst (λ rs. ahead_count value_order rs d.ahead < ahead_count value_order c.ranges c.ahead) (sym next.ranges)
    (one_fewer value_order order_laws.total-law (conjuncts_of g) c.ranges c.after c.ahead d.ahead (record { row = row; truth = True }) t)

pub same_later : (b c d : Stage Value) → SameRanges b c → SameRanges c d → SameRanges b d
same_later b c d h k = record { ranges = k.ranges ∙ h.ranges; after = k.after ∙ h.after }

module _ (a : Schema) (g : Goal) (b : Stage Value) (start : IsAtStart a g b) where
  -- the property of the schema
  abbrev pub stated : Conjuncts Value
  stated = property g.environment a.conjuncts

  -- what is said of the search where it stands is said of the schema
  module _ (c d : Stage Value) (same : SameRanges b c) where
    at_start : (F : List (List Value) → Option (List Value) → Type 0) → F c.ranges c.after → F b.ranges b.after
    at_start F h = subst (λ n. F b.ranges n) same.after (subst (λ rs. F rs c.after) same.ranges h)

    pub holds : Advances value_order (conjuncts_of g) Holds c d → (row : List Value) × (d.last ≡ Some row)
        × Takes value_order stated b.ranges b.after c.ahead (record { row = row; truth = True }) d.ahead
    holds h = let t = advances value_order (conjuncts_of g) stated start.same Holds c d h in
        (t.0, t.1, at_start (λ rs n. Takes value_order stated rs n c.ahead (record { row = t.0; truth = True }) d.ahead) t.2)

    pub breaks : Advances value_order (conjuncts_of g) Breaks c d → (row : List Value) × (d.last ≡ Some row)
        × Takes value_order stated b.ranges b.after c.ahead (record { row = row; truth = Out }) d.ahead
    breaks h = let t = advances value_order (conjuncts_of g) stated start.same Breaks c d h in
        (t.0, t.1, at_start (λ rs n. Takes value_order stated rs n c.ahead (record { row = t.0; truth = Out }) d.ahead) t.2)

    pub none_left : Advances value_order (conjuncts_of g) End c d → IsNoneAhead value_order stated b.ranges b.after c.ahead
    none_left h = let t = advances value_order (conjuncts_of g) stated start.same End c d h in at_start (λ rs n. IsNoneAhead value_order stated rs n c.ahead) t.1

  module _ (words : Wording Value) (limit : Option ℕ) where
    -- the lines that stop early
    pub stops : (last : Option (List Value)) (events : List (Event Value)) (old new : Option (List ℕ)) → IsFirst words limit stated b.ranges b.after last events
        → AppendsFront old new (lines words events) → StopsLines words limit g.environment a b old new
    stops last events old new (inl none) front = (lines words events, inl (ap (lines words) none), front)
    stops last events old new (inr (known, begun)) front = (lines words events, inr (events, last, known, begun), front)

    pub ends_by : (c : Stage Value) (by : ending.Ending) (events held : List (Event Value)) (last : Option (List Value)) (old new : Option (List ℕ)) → c.last ≡ last
        → AreEventsUpTo value_order stated b.ranges b.after last events → IsEnd limit events held last by → Appends old new (lines words held) → EndsBy words limit g.environment a b by c old new
    ends_by c by events held last old new is known ended written = record {
      events = events;
      held = held;
      listed = subst (λ l. FindsEvents g.environment a b l events) (sym is) known;
      ended = subst (λ l. IsEnd limit events held l by) (sym is) ended;
      written = written;
    }

-- ---- the whole search, from the lines and their end

module _ (words : Wording Value) (limit : Option ℕ) (e : Environment) (a : Schema) (b : Stage Value) where
  end_text : (by : ending.Ending) (c : Stage Value) (values : List Value) (old new : Option (List ℕ)) (h : EndsBy words limit e a b by c old new) → values ≡ unwrap_or c.last []
      → IsWritten words limit h.events c.last (lines words h.held ++ last_text words by values) (ending_status by)
  end_text endings.More c values old new h given = let m = h.ended in
      IsWritten.pauses m.0 m.1 m.2 m.3 m.4 m.5 (ap (λ (es : List (Event Value)). lines words es ++ words.more) m.6) refl
  end_text endings.Out c values old new h given = let m = h.ended in
      IsWritten.breaks h.held m.0 m.1 m.2 m.3 m.4 m.5 (ap (λ (row : List Value). lines words h.held ++ words.out row) (given ∙ ap (λ (o : Option (List Value)). unwrap_or o []) m.2)) refl
  end_text endings.End c values old new h given = let m = h.ended in
      IsWritten.ends m.0 m.1 m.2 (ap (λ (es : List (Event Value)). lines words es ++ words.end) m.3) refl

  -- with what is written of the number of tests
  pub all_text : (tests : Bool) (by : ending.Ending) (c : Stage Value) (values : List Value) (counted : List ℕ) (old new : Option (List ℕ))
      (h : EndsBy words limit e a b by c old new) (ending : List ℕ)
      → values ≡ unwrap_or c.last [] → TellsTests words tests e a b c.last counted → ending ≡ last_text words by values ++ counted
      → WritesAll words limit tests e a b (lines words h.held ++ ending) (ending_status by)
  all_text tests by c values counted old new h ending given number is = record {
    last = c.last;
    events = h.events;
    written = lines words h.held ++ last_text words by values;
    counted = counted;
    listed = h.listed;
    ends = end_text by c values old new h given;
    numbered = number;
    whole = ap (λ t. lines words h.held ++ t) is ∙ sym (append_assoc (lines words h.held) (last_text words by values) counted);
  }

  -- where it isn't asked for
  pub untold_text : (by : ending.Ending) (c : Stage Value) (values : List Value) (old new : Option (List ℕ)) (h : EndsBy words limit e a b by c old new) (ending : List ℕ)
      → values ≡ unwrap_or c.last [] → ending ≡ last_text words by values → WritesAll words limit false e a b (lines words h.held ++ ending) (ending_status by)
  untold_text by c values old new h ending given is = all_text false by c values [] old new h ending given refl (is ∙ sym (append-nil (last_text words by values)))
