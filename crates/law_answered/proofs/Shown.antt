-- What is answered where nothing stands in the way of a request.
use Rattle.law_answered.proofs.Prelude.{◌++◌, ◌<◌, ◌↔◌, ◌∙◌, ◌∷◌, ◌≡◌, ◌⊎◌, [], ap, arith, inl, inr, length, List, None, Option, Some, subst, suc, sym, zero, ℕ, All-cons, All-head, All-nil, All-tail, All, Contains, slice_get, Contains-cases, Contains-head, Contains-later, Contains-nil, IsEvent, Out, True, exact, value_order, Value, Defined, Schema, Environment, Portion, HasTruth, property, Status, ReasonIsTold, Request, RequestAnswer, stated, TellsWhy, UnreadAnswer, IsBinding, IsInDoubt, ShowsBindings, EachBindingIsShown, EventsAreShown, IsGranted, IsShownInOneWay, ShowsEvents, numbers_of, AreMessages, wording, AnswersRequest, AreClear, spellings, TellsShown, IsTruth, ResolvedTree, in_row, refl, Done, total-law}
use Rattle.zf_value.specs.declared.value.Truth.{Truth}
use Rattle.zf_value.specs.declared.value.Truth.TheVariants as truth
use Rattle.law_answered.proofs.OneSource.{unread}
use Rattle.law_answered.proofs.OneSearch.{clear_at, one_shown}
use Rattle.law_answered.proofs.OneParts.{one_shown_parts}
use Rattle.law_answered.proofs.Stages.{both_answers, Telling}
use Rattle.law_answered.proofs.WrittenRows.{with_truth, written_rows}

-- ---- the events

-- what is reported is reported of the search that is granted
of_answer : (Tells : Telling) (r : Request) (file source : List ℕ) (g : List Defined) (a : Schema) (e : Environment) (p : Portion) (text : List ℕ)
    (status : Status) → IsGranted r source g a e p
    → AreMessages r.format file (UnreadAnswer r.details source) text status ⊎ RequestAnswer Tells r file source text status → Tells g a e p text status
of_answer Tells r file source g a e p text status granted (inl (told, (fault, about, refused, lines, bad), is)) =
    let checks = granted.asked.has_schema.checks in absurd (unread source fault checks.boxes refused checks.reads)
of_answer Tells r file source g a e p text status granted (inr answer) =
    let Also : Telling = λ h b f q two t. Tells h b f q text status → Tells g a e p text status in
    both_answers Tells Also r file source text [] status Done (λ first second alike was also. absurd (alike.1 refl)) (λ h b f q has complete is u v. v u)
    answer (RequestAnswer.granted g a e p granted (λ u. u))

-- what is reported of all components, or of some
pub shown_told : (only : Option (List ℕ)) (r : Request) (file source : List ℕ) (g : List Defined) (a : Schema) (e : Environment) (p : Portion) (text : List ℕ) (status : Status) → r.only ≡ only
    → IsGranted r source g a e p → AnswersRequest r file source text status → TellsShown only r g a e p text status
shown_told only r file source g a e p text status is granted answer =
    subst (λ o. TellsShown o r g a e p text status) is (of_answer (TellsShown r.only r) r file source g a e p text status granted answer)

pub events_are_shown : EventsAreShown
events_are_shown r file source g a e p text status all granted answer = shown_told None r file source g a e p text status all granted answer

pub reason_is_told : ReasonIsTold
reason_is_told r file source g a e p text status granted answer = of_answer (TellsWhy r.format r.details file source) r file source g a e p text status granted answer

pub is_shown_in_one_way : IsShownInOneWay
is_shown_in_one_way r file source g a e p one two s t granted x y =
    of r.only (of_answer (TellsShown r.only r) r file source g a e p one s granted x) (of_answer (TellsShown r.only r) r file source g a e p two t granted y)
  where
    clear : AreClear (spellings e.globals) e.sizes
    clear =
        let asked = granted.asked in clear_at source g [] (stated g r.setting) (numbers_of r.setting) e asked.has_schema.checks asked.complete asked.environment

    of : (only : Option (List ℕ)) → TellsShown only r g a e p one s → TellsShown only r g a e p two t → (one ≡ two) × (s ≡ t)
    of None u v = one_shown r g a e p one two s t u v
    of (Some names) u v = one_shown_parts names r g a e p one two s t clear u v

-- ---- the bindings

-- what holds of all predicates holds at each place
module _ (P : ResolvedTree → Type 0) (At : Option ResolvedTree → Type 0) (same : (p : ResolvedTree) → P p ↔ At (Some p)) where
  at_each : (ts : List ResolvedTree) → All P ts → (c : ℕ) → c < length ts → At (slice_get ts c)
  at_each [] h c l = absurd (omega arith)
  at_each (p ∷ ts) h zero l = (same p).0 (All-head P p ts h)
  at_each (p ∷ ts) h (suc c) l = at_each ts (All-tail P p ts h) c (omega arith)

  all_of_each : (ts : List ResolvedTree) → ((c : ℕ) → c < length ts → At (slice_get ts c)) → All P ts
  all_of_each [] h = All-nil P
  all_of_each (p ∷ ts) h = All-cons P p ts ((same p).1 (h zero (omega arith))) (all_of_each ts (λ c l. h (suc c) (omega arith)))

module _ (e : Environment) (row : List Value) where
  abbrev IsSaid : Truth → ResolvedTree → Type 0
  IsSaid t p = IsTruth (in_row e row) p t

  abbrev IsTrueOrOut : ResolvedTree → Type 0
  IsTrueOrOut p = IsSaid truth.True p ⊎ IsSaid truth.Out p

  all_true : (ts : List ResolvedTree) → All (IsSaid truth.True) ts ↔ ((c : ℕ) → c < length ts → HasTruth e row (slice_get ts c) truth.True)
  all_true ts =
      let at : Option ResolvedTree → Type 0 = λ o. HasTruth e row o truth.True in
      (at_each (IsSaid truth.True) at (λ p. (λ h. h, λ h. h)) ts, all_of_each (IsSaid truth.True) at (λ p. (λ h. h, λ h. h)) ts)

  all_true_or_out : (ts : List ResolvedTree)
      → All IsTrueOrOut ts ↔ ((c : ℕ) → c < length ts → HasTruth e row (slice_get ts c) truth.True ⊎ HasTruth e row (slice_get ts c) truth.Out)
  all_true_or_out ts =
      let at : Option ResolvedTree → Type 0 = λ o. HasTruth e row o truth.True ⊎ HasTruth e row o truth.Out in
      (at_each IsTrueOrOut at (λ p. (λ h. h, λ h. h)) ts, all_of_each IsTrueOrOut at (λ p. (λ h. h, λ h. h)) ts)

  says_one : (t : Truth) (ts : List ResolvedTree) (p : ResolvedTree) → Contains ts p → IsTruth (in_row e row) p t → (c : ℕ) × (c < length ts) × HasTruth e row (slice_get ts c) t
  says_one t [] p m h = absurd (Contains-nil p m)
  says_one t (q ∷ ts) p m h = elim (Contains-cases q ts p m) [
    | inl is ↦ (zero, omega arith, subst (λ q. IsTruth (in_row e row) q t) (sym is) h)
    | inr n ↦ let ih = says_one t ts p n h in let l = ih.1 in (suc ih.0, omega (arith, l), ih.2)
  ]

  one_said : (t : Truth) (ts : List ResolvedTree) (c : ℕ) → c < length ts → HasTruth e row (slice_get ts c) t → (p : ResolvedTree) × Contains ts p × IsTruth (in_row e row) p t
  one_said t [] c l h = absurd (omega arith)
  one_said t (q ∷ ts) zero l h = (q, Contains-head q ts, h)
  one_said t (q ∷ ts) (suc c) l h = let ih = one_said t ts c (omega arith) h in (ih.0, Contains-later q ts ih.0 ih.1, ih.2)

-- a row that satisfies the schema is an event that holds
pub binding_event : (e : Environment) (a : Schema) (ranges : List (List Value)) (after : Option (List Value)) (row : List Value)
    → IsBinding e a ranges after row ↔ IsEvent value_order (property e a.conjuncts) ranges after (with_truth row True)
binding_event e a ranges after row = (
  λ b. record { within = b.within; later = b.later; truth_of = (all_true e row a.conjuncts).0 b.satisfies; not_false = λ q. cc },
  λ i. record { within = i.within; later = i.later; satisfies = (all_true e row a.conjuncts).1 i.truth_of },
)

-- one of which it is not known is an event that is out
pub doubt_event : (e : Environment) (a : Schema) (ranges : List (List Value)) (after : Option (List Value)) (row : List Value)
    → IsInDoubt e a ranges after row ↔ IsEvent value_order (property e a.conjuncts) ranges after (with_truth row Out)
doubt_event e a ranges after row = (
  λ b. record {
    within = b.within;
    later = b.later;
    truth_of = ((all_true_or_out e row a.conjuncts).0 b.out.0, (let w = b.out.1 in says_one e row truth.Out a.conjuncts w.0 w.1 w.2));
    not_false = λ q. cc;
  },
  λ i. let t = i.truth_of in
      record {
        within = i.within;
        later = i.later;
        out = ((all_true_or_out e row a.conjuncts).1 t.0, (let w = t.1 in one_said e row truth.Out a.conjuncts w.0 w.1 w.2));
      },
)

bindings_of : (r : Request) (g : List Defined) (a : Schema) (e : Environment) (p : Portion) (text : List ℕ) (status : Status) → ShowsEvents r g a e p text status
    → ShowsBindings r g a e p text status
bindings_of r g a e p text status s =
    let listed = s.listed in
    let telling = wording r g a in
    let w = written_rows value_order total-law exact (property e a.conjuncts) listed.ranges p.after (IsBinding e a listed.ranges p.after) (IsInDoubt e a listed.ranges p.after)
    (binding_event e a listed.ranges p.after) (doubt_event e a listed.ranges p.after) s.events s.last listed.listed telling r.limit s.lines status s.ends in
    record {
      ranges = listed.ranges;
      of_components = listed.of_components;
      rows = w.rows;
      last = s.last;
      members = w.members;
      ascending = w.ascending;
      certain = w.certain;
      final = w.final;
      counted = s.counted;
      ending = w.ending;
      numbered = s.numbered;
      written = s.whole ∙ ap (λ t. t ++ s.counted) w.whole;
    }

pub each_binding_is_shown : EachBindingIsShown
each_binding_is_shown r file source g a e p text status all granted answer = bindings_of r g a e p text status (events_are_shown r file source g a e p text status all granted answer)
