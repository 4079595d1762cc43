-- What the searches answer, in the turn of a node.
use Rattle.zf_steps.proofs.Prelude.{◌+◌, ◌<◌, ◌∙◌, ◌≡◌, [], ap, arith, Bool, false, inl, List, Option, refl, Some, subst, suc, sym, true, ℕ, unwrap_or, begins_with_none, AreFirst, BeginsTurn, AdvancesTo, HasFewer, IsSeenAs, Value, value_order, AllPairs-nil, Contains-nil, Out, True, Conjuncts, Advances, ComesAfter, Event, IsEvent, IsNoneAhead, SameRanges, Stage, Takes, property, Label, Node, State, BeginsFor, BeginsState, begun_as, exploration, GoesOn, HasFound, HasPassed, held_by, IsEventOf, IsFirstOf, IsFound, IsSight, IsStray, Operation, parts_of, rows_ahead, searched, sought_in, stopped, System, Stepped, values_at}
use Rattle.zf_lines.proofs.Fewer.{ahead_count, one_fewer}
use Rattle.zf_reach.specs.declared.machine.Found as answer
use Rattle.zf_reach.specs.declared.machine.Found.TheVariants as founds
use Rattle.zf_reach.specs.declared.sight.Sight.{Sight}
use Rattle.zf_reach.specs.declared.sight.Sight.TheVariants as sights
use Rattle.zf_value.specs.contracts.plain.ValueOrd.TheImpl.Laws as order_laws
use Rattle.zf_walk.specs.declared.step.Step.TheVariants.{Breaks, End, Holds}
use Rattle.zf_steps.proofs.Searching.{all_passed, begins_so, breaks_so, event_in, found_at, goes_on}

-- the row that a step gave
row_of : (given row : List Value) (last : Option (List Value)) → given ≡ unwrap_or last [] → last ≡ Some row → given ≡ row
row_of given row last g l = g ∙ ap (λ o. unwrap_or o []) l

-- ---- a search goes on

module _ (m : System) (eq : Node → Node → Bool) (number : ℕ) (o : Operation) (old new : Stage Value) (same : SameRanges old new) (given : List Value)
    (gives : given ≡ unwrap_or new.last []) (stop : List ℕ) where
  -- to one more step
  pub goes_to : (values after : List Value) → values ≡ values_at o.others given → after ≡ values_at o.after given
      → Advances value_order (property m.environment o.schema.conjuncts) Holds old new
      → GoesOn m eq number o old new (founds.Edge (record { operation = number; values = values }) (State after)) stop
  goes_to values after is is' (row, last, takes) = λ a now h.
      let here : given ≡ row = row_of given row new.last gives last in
      let Goes : List Value → List Value → Type 0 = λ v w. AdvancesTo (exploration m eq)
      (founds.Edge (record { operation = number; values = v }) (State w)) a now (HasFound m eq a number o new) (HasPassed m eq a (number + 1)) stop in
      subst (λ v. Goes v after) (sym (is ∙ ap (values_at o.others) here))
      (subst (λ w. Goes (values_at o.others row) w) (sym (is'
      ∙ ap (values_at o.after) here)) (goes_on m eq a number o old new now h same row takes, begins_so m eq a number o old new now h same row takes))

  -- to one that can't be decided
  pub goes_out : stop ≡ stopped m.form m.elements o given → Advances value_order (property m.environment o.schema.conjuncts) Breaks old new
      → GoesOn m eq number o old new founds.Out stop
  goes_out said (row, last, takes) = λ a now h.
      let here : given ≡ row = row_of given row new.last gives last in
      subst (λ t. AdvancesTo (exploration m eq) founds.Out a now (HasFound m eq a number o new) (HasPassed m eq a (number + 1)) t) (sym (said
      ∙ ap (stopped m.form m.elements o) here)) (breaks_so m eq a number o old new now h same row takes)

  -- to the end
  pub goes_over : Advances value_order (property m.environment o.schema.conjuncts) End old new → GoesOn m eq number o old new founds.Over stop
  goes_over (last, none, past) = λ a now h.
      let next : suc number ≡ number + 1 = omega arith in
      subst (λ n. HasPassed m eq a n now) next (all_passed m eq a number o old new now h same none)

-- with fewer rows ahead
pub fewer_ahead : (s : Conjuncts Value) (old new : Stage Value) → SameRanges old new → Advances value_order s Holds old new → rows_ahead new < rows_ahead old
fewer_ahead s old new same (row, last, takes) =
    subst (λ rs. ahead_count value_order rs new.ahead < rows_ahead old) (sym same.ranges)
    (one_fewer value_order order_laws.total-law s old.ranges old.after old.ahead new.ahead (record { row = row; truth = True }) takes)

-- ---- a state is looked at

module _ (m : System) (eq : Node → Node → Bool) (values : List Value) (begun new : Stage Value)
    (begins : BeginsFor m.environment m.test.schema (held_by m.test.sources values) begun) where
  abbrev conjuncts : Conjuncts Value
  conjuncts = property m.environment m.test.schema.conjuncts

  abbrev Found : Event Value → Type 0
  Found x = IsEventOf m.environment m.test.schema (held_by m.test.sources values) x

  -- what a search takes first is the first of all
  first_taken : (x : Event Value) → Takes value_order conjuncts begun.ranges begun.after begun.ahead x new.ahead
      → IsFirstOf m.environment m.test.schema (held_by m.test.sources values) x
  first_taken x t = record {
    event = found_at m eq (State values) 0 m.test begun.ranges begins.ranges x
        (subst (λ n. IsEvent value_order conjuncts begun.ranges n x) begins.named t.event);
    first = λ y f. let i = event_in m eq (State values) 0 m.test begun.ranges begins.ranges y f in
        t.first y (subst (λ n. IsEvent value_order conjuncts begun.ranges n y) (sym begins.named) i) (begins.ahead y i);
  }

  none_there : IsNoneAhead value_order conjuncts begun.ranges begun.after begun.ahead → (x : Event Value) → Found x → ⊥
  none_there none x f = let i = event_in m eq (State values) 0 m.test begun.ranges begins.ranges x f in
      none x (subst (λ n. IsEvent value_order conjuncts begun.ranges n x) (sym begins.named) i) (begins.ahead x i)

  module _ (stop : List ℕ) where
    seen_sought : Advances value_order conjuncts Holds begun new → IsSeenAs (sought_in m) sights.Sought (State values) stop
    seen_sought (row, last, takes) = (row, first_taken (record { row = row; truth = True }) takes)

    seen_other : Advances value_order conjuncts End begun new → IsSeenAs (sought_in m) sights.Other (State values) stop
    seen_other (last, none, past) = none_there none

    seen_untold : (given : List Value) → given ≡ unwrap_or new.last [] → stop ≡ stopped m.form m.elements m.test given
        → Advances value_order conjuncts Breaks begun new → IsSeenAs (sought_in m) sights.Untold (State values) stop
    seen_untold given gives said (row, last, takes) =
        let here : given ≡ row = row_of given row new.last gives last in
        (row, first_taken (record { row = row; truth = Out }) takes, said ∙ ap (stopped m.form m.elements m.test) here)

-- ---- its turn begins

module _ (m : System) (eq : Node → Node → Bool) (values : List Value) where
  nothing_first : (o : Operation) → AreFirst (searched m eq) (State values) o []
  nothing_first o = record {
    ascending = AllPairs-nil (λ (x y : Event Value). ComesAfter value_order x.row y.row);
    are = λ x i. absurd (Contains-nil x i);
    first = λ x y i f c. absurd (Contains-nil x i);
  }

  begun_so : (b : Bool) → IsStray m (State values) b → BeginsTurn (searched m eq) (State values) (record { stray = b; edges = [] })
  begun_so b stray = (stray, begins_with_none (searched m eq) (State values) 0 (parts_of m (State values)) nothing_first)

  pub begins_seen : (stop : List ℕ) (s : Sight) → IsSeenAs (sought_in m) s (State values) stop → BeginsState m eq (State values) (begun_as s) stop
  begins_seen stop sights.Sought stray = (record { stray = false; edges = [] }, (refl, begun_so false stray), (stray, refl))
  begins_seen stop sights.Other stray = (record { stray = true; edges = [] }, (refl, begun_so true stray), (stray, refl))
  begins_seen stop sights.Untold doubt = (record { stray = false; edges = [] }, (refl, inl (refl, doubt)), tt)

-- ---- steps as what they are taken for

pub seen_told : (m : System) (eq : Node → Node → Bool) (values : List Value) (begun new : Stage Value) → BeginsFor m.environment m.test.schema (held_by m.test.sources values) begun
    → (s : Stepped) → s.row.items ≡ unwrap_or new.last [] → Advances value_order (property m.environment m.test.schema.conjuncts) s.step begun new
    → (sight : Sight) (stop : List ℕ) → IsSight m.form m.elements m.test s sight stop → IsSeenAs (sought_in m) sight (State values) stop
seen_told m eq values begun new begins s row h sights.Sought stop is =
    seen_sought m eq values begun new begins stop (subst (λ x. Advances value_order (property m.environment m.test.schema.conjuncts) x begun new) is h)
seen_told m eq values begun new begins s row h sights.Other stop is =
    seen_other m eq values begun new begins stop (subst (λ x. Advances value_order (property m.environment m.test.schema.conjuncts) x begun new) is h)
seen_told m eq values begun new begins s row h sights.Untold stop is =
    seen_untold m eq values begun new begins stop s.row.items row is.1 (subst (λ x. Advances value_order (property m.environment m.test.schema.conjuncts) x begun new) is.0 h)

pub goes_told : (m : System) (eq : Node → Node → Bool) (number : ℕ) (o : Operation) (old new : Stage Value) → SameRanges old new
    → (s : Stepped) → s.row.items ≡ unwrap_or new.last [] → Advances value_order (property m.environment o.schema.conjuncts) s.step old new
    → (f : answer.Found Node Label) (stop : List ℕ) → IsFound m.form m.elements number o s f stop → GoesOn m eq number o old new f stop
goes_told m eq number o old new same s row h (founds.Edge label to) stop (step, is, at) =
    subst (λ l. GoesOn m eq number o old new (founds.Edge l to) stop) (sym is)
    (subst (λ n. GoesOn m eq number o old new (founds.Edge (record { operation = number; values = values_at o.others s.row.items }) n) stop) (sym at)
    (goes_to m eq number o old new same s.row.items row stop (values_at o.others s.row.items) (values_at o.after s.row.items) refl refl
    (subst (λ x. Advances value_order (property m.environment o.schema.conjuncts) x old new) step h)))
goes_told m eq number o old new same s row h founds.Over stop is =
    goes_over m eq number o old new same s.row.items row stop (subst (λ x. Advances value_order (property m.environment o.schema.conjuncts) x old new) is h)
goes_told m eq number o old new same s row h founds.Out stop is =
    goes_out m eq number o old new same s.row.items row stop is.1 (subst (λ x. Advances value_order (property m.environment o.schema.conjuncts) x old new) is.0 h)

pub fewer_told : (m : System) (number : ℕ) (o : Operation) (old new : Stage Value) → SameRanges old new
    → (s : Stepped) → Advances value_order (property m.environment o.schema.conjuncts) s.step old new
    → (f : answer.Found Node Label) (stop : List ℕ) → IsFound m.form m.elements number o s f stop → HasFewer f (rows_ahead old) (rows_ahead new)
fewer_told m number o old new same s h (founds.Edge label to) stop is =
    fewer_ahead (property m.environment o.schema.conjuncts) old new same (subst (λ x. Advances value_order (property m.environment o.schema.conjuncts) x old new) is.0 h)
fewer_told m number o old new same s h founds.Over stop is = tt
fewer_told m number o old new same s h founds.Out stop is = tt
