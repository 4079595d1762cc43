-- The first event of a search, and what is reported of it.
use Rattle.zf_answers.proofs.Prelude.{◌++◌, ◌∙◌, ◌∷◌, ◌≡◌, [], ap, List, None, Option, refl, Some, subst, ℕ, Stage, Value, Schema, Environment, portion, property, Goal, spellings, Spelling, unwrap_or, Begins, conjuncts_of, value_order, Advances, Event, IsNoneAhead, Takes, Done, PastBounds, HasEvents, out_line, row_line, CanBeSearched, environment_in, HasNone, IsBegunOf, line_in, out_line_in, satisfied_line, schema_in, TellsFirst, TellsWhy, Subject}
use Rattle.zf_value.specs.contracts.plain.ValueOrd.TheImpl.Laws as order_laws
use Rattle.zf_walk.specs.Conjuncts.{Conjuncts}
use Rattle.zf_walk.specs.declared.judge.Truth.TheVariants.{Out, True}
use Rattle.zf_walk.specs.declared.step.Step.TheVariants.{Breaks, End, Holds}
use Rattle.zf_plan.proofs.Alike.{advances}
use Rattle.zf_why.proofs.Decided.{ends}
use Rattle.zf_lines.proofs.Behind.{Behind, none_behind, one_behind, up_to_end, up_to_last}

module _ (e : Environment) (a : Schema) (held : List (Option Value)) (g : Goal) (b d : Stage Value) (begun : Begins e a (portion None held) g b) where
  abbrev stated : Conjuncts Value
  stated = property e a.conjuncts

  none : Behind value_order stated b.ranges None b.ahead []
  none = none_behind value_order stated b.ranges None b.ahead begun.ahead

  -- the event that the first step takes
  one_event : (x : Event Value) → Takes value_order stated b.ranges b.after b.ahead x d.ahead → HasEvents e a (portion None held) (Some x.row) (x ∷ [])
  one_event x t =
      let taken = subst (λ n. Takes value_order stated b.ranges n b.ahead x d.ahead) begun.named t in
      let all = one_behind value_order stated b.ranges None order_laws.total-law b.ahead d.ahead [] x taken none in
      record {
        ranges = b.ranges;
        of_components = begun.ranges;
        listed = up_to_last value_order stated b.ranges None order_laws.total-law [] x (subst (λ w. Behind value_order stated b.ranges None w (x ∷ [])) taken.passed all);
      }

  -- it gives a row, which is that of an event
  pub holds : Advances value_order (conjuncts_of g) Holds b d → (row : List Value) × (d.last ≡ Some row) × HasEvents e a (portion None held) (Some row) (record { row = row; truth = True } ∷ [])
  holds h =
      let t = advances value_order (conjuncts_of g) stated begun.same Holds b d h in
      (t.0, t.1, one_event (record { row = t.0; truth = True }) t.2)

  pub breaks : Advances value_order (conjuncts_of g) Breaks b d → (row : List Value) × (d.last ≡ Some row) × HasEvents e a (portion None held) (Some row) (record { row = row; truth = Out } ∷ [])
  breaks h =
      let t = advances value_order (conjuncts_of g) stated begun.same Breaks b d h in
      (t.0, t.1, one_event (record { row = t.0; truth = Out }) t.2)

  -- or there is none
  pub no_events : Advances value_order (conjuncts_of g) End b d → HasEvents e a (portion None held) None []
  no_events h =
      let t = advances value_order (conjuncts_of g) stated begun.same End b d h in
      let left = subst (λ n. IsNoneAhead value_order stated b.ranges n b.ahead) begun.named t.1 in
      record { ranges = b.ranges; of_components = begun.ranges; listed = up_to_end value_order stated b.ranges None b.ahead [] left none }

module _ (s : Subject) (can : CanBeSearched s) (g : Goal) (b d : Stage Value) (begun : IsBegunOf s g b) where
  -- the row that a step gives, in the spellings of the environment
  given_row : (f : List Spelling → List Value → List ℕ) (values row : List Value) → values ≡ unwrap_or d.last [] → d.last ≡ Some row
      → f s.style.now.elements.now values ≡ f (spellings (environment_in s).globals) row
  given_row f values row given last =
      ap (λ k. f k values) can.spelled ∙ ap (f (spellings (environment_in s).globals)) (given ∙ ap (λ (o : Option (List Value)). unwrap_or o []) last)

  pub first_satisfied : (values : List Value) (text : List ℕ) → values ≡ unwrap_or d.last [] → Advances value_order (conjuncts_of g) Holds b d
      → text ≡ line_in s values ++ satisfied_line s.style.now.format → TellsFirst s text Done
  first_satisfied values text given step told =
      λ details file source.
      let f = s.style.now.format in
      let t = holds (environment_in s) (schema_in s) s.held.now g b d begun step in
      TellsWhy.satisfied (record { row = t.0; truth = True }) t.2 refl
      (told ∙ ap (λ l. l ++ satisfied_line f) (given_row (λ k vs. row_line f k (schema_in s).comps vs) values t.0 given t.1)) refl

  pub first_out : (values : List Value) (text : List ℕ) → values ≡ unwrap_or d.last [] → Advances value_order (conjuncts_of g) Breaks b d
      → text ≡ out_line_in s values → TellsFirst s text PastBounds
  first_out values text given step told =
      λ details file source.
      let t = breaks (environment_in s) (schema_in s) s.held.now g b d begun step in
      TellsWhy.doubtful (record { row = t.0; truth = Out }) t.2 refl
      (told ∙ given_row (λ k vs. out_line s.style.now.format k (schema_in s).comps vs) values t.0 given t.1) refl

  pub first_none : Advances value_order (conjuncts_of g) End b d → HasNone s
  first_none step = record {
    events = no_events (environment_in s) (schema_in s) s.held.now g b d begun step;
    none = ends (environment_in s) (schema_in s) s.held.now g b begun d step;
  }
