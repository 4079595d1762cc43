-- Where the loop over the lines of a search stands.
use Rattle.zf_lines.proofs.Prelude.{◌++◌, ◌+◌, ◌∙◌, ◌∷◌, ◌≡◌, [], ap, List, None, Option, refl, Some, subst, sym, ℕ, Appends, option_map, unwrap_or, Advances, SameRanges, Stage, Takes, Out, True, Breaks, End, Holds, value_order, Value, Schema, property, conjuncts_of, Goal, EndsBy, AppendsFront, HasLimit, IsAtStart, StopsLines, Wording}
use Rattle.zf_walk.specs.declared.step.Step.{Step}
use Rattle.zf_lines.specs.declared.ending.Ending.TheVariants as endings
use Rattle.zf_lines.proofs.Lines as lines
use Rattle.zf_lines.proofs.Lines.{HasLines}
use Rattle.zf_lines.proofs.Searching as searching

-- the lines of what is after are written, and so many bindings are left to be
pub record Standing (words : Wording Value) (limit : Option ℕ) (a : Schema) (g : Goal) (b : Stage Value) (now : Goal) (c : Stage Value) (left : Option ℕ) (old new : Option (List ℕ)) : Type 0 where
  pub lines : HasLines words limit (property g.environment a.conjuncts) b.ranges b.after c.ahead left c.last old new
  pub some : HasLimit left
  pub goal : now ≡ g
  pub same : SameRanges b c

module _ (words : Wording Value) (limit : Option ℕ) (a : Schema) (g : Goal) (b : Stage Value) (start : IsAtStart a g b) where
  pub stands_first : (old : Option (List ℕ)) → HasLimit limit → Standing words limit a g b g b limit old old
  stands_first old some = record {
    lines = lines.no_lines words limit (property g.environment a.conjuncts) b.ranges b.after b.ahead b.last old start.ahead;
    some = some;
    goal = refl;
    same = record { ranges = refl; after = refl };
  }

  module _ (now : Goal) (c : Stage Value) (left : Option ℕ) (old new : Option (List ℕ)) (h : Standing words limit a g b now c left old new) where
    pub stops_here : StopsLines words limit g.environment a b old new
    stops_here = searching.stops a g b start words limit c.last h.lines.events old new h.lines.first
        (lines.lines_so_far words limit (property g.environment a.conjuncts) b.ranges b.after c.ahead left c.last old new h.lines)

    module _ (d : Stage Value) where
      by_goal : (step : Step) → Advances value_order (conjuncts_of now) step c d → Advances value_order (conjuncts_of g) step c d
      by_goal step answer = subst (λ (f : Goal). Advances value_order (conjuncts_of f) step c d) h.goal answer

      module _ (values : List Value) (given : values ≡ unwrap_or d.last []) (answer : Advances value_order (conjuncts_of now) Holds c d) where
        abbrev row : List Value
        row = (searching.holds a g b start c d h.same (by_goal Holds answer)).0

        last : d.last ≡ Some row
        last = (searching.holds a g b start c d h.same (by_goal Holds answer)).1

        taken : Takes value_order (property g.environment a.conjuncts) b.ranges b.after c.ahead (record { row = row; truth = True }) d.ahead
        taken = (searching.holds a g b start c d h.same (by_goal Holds answer)).2

        shown : values ≡ row
        shown = given ∙ ap (λ (o : Option (List Value)). unwrap_or o []) last

        pub stops_in_line : (later : Option (List ℕ)) → AppendsFront new later (words.line values) → StopsLines words limit g.environment a b old later
        stops_in_line later w = searching.stops a g b start words limit (Some row) _ old later
            (lines.first_more words limit (property g.environment a.conjuncts) b.ranges b.after c.ahead d.ahead left c.last old new h.lines h.some row taken)
            (lines.part_of_line words limit (property g.environment a.conjuncts) b.ranges b.after c.ahead d.ahead left c.last old new h.lines h.some row taken later
            (subst (λ v. AppendsFront new later (words.line v)) shown w))

        module _ (less : Option ℕ) (later : Option (List ℕ)) (e : left ≡ option_map (λ n. n + 1) less) (w : Appends new later (words.line values)) where
          longer : HasLines words limit (property g.environment a.conjuncts) b.ranges b.after d.ahead less d.last old later
          longer = subst (λ l. HasLines words limit (property g.environment a.conjuncts) b.ranges b.after d.ahead less l old later) (sym last)
              (lines.one_line words limit (property g.environment a.conjuncts) b.ranges b.after c.ahead d.ahead left c.last old new h.lines h.some row taken less later e
              (subst (λ v. Appends new later (words.line v)) shown w))

          pub goes_on_line : (next : Goal) → next ≡ now → SameRanges c d → HasLimit less → Standing words limit a g b next d less old later
          goes_on_line next is same some = record { lines = longer; some = some; goal = is ∙ h.goal; same = searching.same_later b c d h.same same }

          pub ends_at_limit : HasLimit limit → less ≡ Some 0 → EndsBy words limit g.environment a b endings.More d old later
          ends_at_limit some none =
              let all = subst (λ l. HasLines words limit (property g.environment a.conjuncts) b.ranges b.after d.ahead l d.last old later) none longer in
              let m = lines.more_ended words limit (property g.environment a.conjuncts) b.ranges b.after d.ahead d.last old later all some in
              searching.ends_by a g b start words limit d endings.More all.events all.events d.last old later refl m.0 m.1 all.written

      pub ends_out : Advances value_order (conjuncts_of now) Breaks c d → EndsBy words limit g.environment a b endings.Out d old new
      ends_out answer =
          let t = searching.breaks a g b start c d h.same (by_goal Breaks answer) in
          searching.ends_by a g b start words limit d endings.Out (h.lines.events ++ record { row = t.0; truth = Out } ∷ []) h.lines.events (Some t.0) old new t.1
          (lines.out_behind words limit (property g.environment a.conjuncts) b.ranges b.after c.ahead d.ahead left c.last old new h.lines h.some t.0 t.2)
          (lines.out_ended words limit (property g.environment a.conjuncts) b.ranges b.after c.ahead d.ahead left c.last old new h.lines h.some t.0)
          h.lines.written

      pub ends_at_end : Advances value_order (conjuncts_of now) End c d → EndsBy words limit g.environment a b endings.End d old new
      ends_at_end answer =
          searching.ends_by a g b start words limit d endings.End h.lines.events h.lines.events None old new answer.0
          (lines.all_behind_end words limit (property g.environment a.conjuncts) b.ranges b.after c.ahead d.ahead left c.last old new h.lines h.some
          (searching.none_left a g b start c d h.same (by_goal End answer)))
          (lines.end_ended words limit (property g.environment a.conjuncts) b.ranges b.after c.ahead d.ahead left c.last old new h.lines h.some)
          h.lines.written
