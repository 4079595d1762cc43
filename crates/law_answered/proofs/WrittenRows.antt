-- The rows that are written are exactly those that are found up to the last one, and none before it is in doubt.
use Rattle.law_answered.proofs.Prelude.{◌++◌, ◌↔◌, ◌∙◌, ◌∷◌, ◌≡◌, [], ap, arith, inl, inr, length, List, map, None, Option, refl, Some, subst, sym, ℕ, length-map, map-append, take_all, All-contains, flat_map-map, IsTotalOrder, flat_map, AllPairs, Contains, Ordering, Contains-head, Contains-left, Contains-right, IsRowOf-length, Conjuncts, Event, IsEvent, ComesAfter, HasLength, TiesAreEqual, IsUpTo, Truth, Out, True, AllPairs-mapped, Contains-map, Contains-mapped, AreEventsUpTo, Hold, IsBelow, IsWritten, lines, Status, EndsLines, IsBefore, IsNotPast, Wording, ◌⊎◌, append-nil, Contains-cases, Contains-either, Contains-nil, AllPairs-front}
use Rattle.law_answered.proofs.OneEnding.{rows_compared, never_both, never_itself}

abbrev pub with_truth : {V : Type 0} → List V → Truth → Event V
with_truth row t = record { row = row; truth = t }

pub record AreWritten {V : Type 0} (cmp : V → V → Ordering) (Found InDoubt : List V
    → Type 0) (telling : Wording V) (limit : Option ℕ) (last : Option (List V)) (text : List ℕ) (status : Status) : Type 0 where
  pub rows : List (List V)
  pub final : List ℕ
  pub members : (row : List V) → Contains rows row ↔ (Found row × IsNotPast cmp last row)
  pub ascending : AllPairs (ComesAfter cmp) rows
  pub certain : (row : List V) → InDoubt row → IsBefore cmp last row → ⊥
  pub ending : EndsLines (λ row. row) InDoubt telling limit rows last final status
  pub whole : text ≡ flat_map telling.line rows ++ final

module _ {V : Type 0} (cmp : V → V → Ordering) (o : IsTotalOrder cmp) (ties : TiesAreEqual cmp) where
  before_not_past : (last : Option (List V)) (row : List V) → IsBefore cmp last row → IsNotPast cmp last row
  before_not_past None row h = tt
  before_not_past (Some last) row h = inr h

  pub up_to : (last : Option (List V)) (n : ℕ) (row : List V) → HasLength last n → length row ≡ n → IsNotPast cmp last row → IsUpTo cmp last row
  up_to None n row l m h = tt
  up_to (Some last) n row l m (inl e) = λ less. never_itself cmp o ties row (subst (λ r. ComesAfter cmp r row) (take_all (length row) last (omega arith) ∙ sym e) less)
  up_to (Some last) n row l m (inr c) = λ less. never_both cmp o ties last row (subst (λ r. ComesAfter cmp r row) (take_all (length row) last (omega arith)) less) c

  pub not_past : (last : Option (List V)) (n : ℕ) (row : List V) → HasLength last n → length row ≡ n → IsUpTo cmp last row → IsNotPast cmp last row
  not_past None n row l m h = tt
  not_past (Some last) n row l m h = elim (rows_compared cmp o ties last row) [
    | inl e ↦ inl (sym e)
    | inr (inl c) ↦ absurd (h (subst (λ r. ComesAfter cmp r row) (sym (take_all (length row) last (omega arith))) c))
    | inr (inr c) ↦ inr c
  ]

  module _ (s : Conjuncts V) (ranges : List (List V)) (after : Option (List V)) (Found InDoubt : List V → Type 0)
      (found : (row : List V) → Found row ↔ IsEvent cmp s ranges after (with_truth row True)) (in_doubt : (row : List V) → InDoubt row ↔ IsEvent cmp s ranges after (with_truth row Out)) where
    module _ (events : List (Event V)) (last : Option (List V)) (h : AreEventsUpTo cmp s ranges after last events) where
      is_event : (e : Event V) → Contains events e → IsEvent cmp s ranges after e
      is_event e m = ((h.members e).0 m).0

      -- so has the last row, which is that of an event
      long : (e : Event V) → Contains events e → last ≡ Some e.row → HasLength last (length ranges)
      long e m up = subst (λ w. HasLength w (length ranges)) (sym up) (IsRowOf-length ranges e.row (is_event e m).within)

      long_none : last ≡ None → HasLength last (length ranges)
      long_none none = subst (λ w. HasLength w (length ranges)) (sym none) tt

      -- an event that holds is a row that is found
      found_of : HasLength last (length ranges) → (e : Event V) → Contains events e → e.truth ≡ True → Found e.row × IsNotPast cmp last e.row
      found_of l e m t =
          let i = (h.members e).0 m in
          let same : e ≡ with_truth e.row True = ap (λ (u : Truth). with_truth e.row u) t in
          ((found e.row).1 (subst (λ x. IsEvent cmp s ranges after x) same i.0), not_past last (length ranges) e.row l (IsRowOf-length ranges e.row i.0.within) i.1)

      only : (e x : Event V) → Contains (e ∷ []) x → e ≡ x
      only e x m = elim (Contains-cases e [] x m) [ inl same ↦ same | inr none ↦ absurd (Contains-nil x none) ]

      -- the rows of the first events, where these hold, and of the others none holds or comes before the last row
      module _ (l : HasLength last (length ranges)) (front rest : List (Event V)) (split : events ≡ front ++ rest) (hold : Hold front)
          (none : (x : Event V) → Contains rest x → x.truth ≡ True → ⊥) (beyond : (x : Event V) → Contains rest x → IsBefore cmp last x.row → ⊥) where
        abbrev rows : List (List V)
        rows = map (λ (e : Event V). e.row) front

        either : (x : Event V) → IsEvent cmp s ranges after x → IsNotPast cmp last x.row → Contains front x ⊎ Contains rest x
        either x i n =
            let m = (h.members x).1 (i, up_to last (length ranges) x.row l (IsRowOf-length ranges x.row i.within) n) in
            Contains-either front rest x (subst (λ es. Contains es x) split m)

        of_row : (row : List V) → Contains rows row → Found row × IsNotPast cmp last row
        of_row row m =
            let c = Contains-mapped (λ (e : Event V). e.row) front row m in
            let t = All-contains (λ (x : Event V). x.truth ≡ True) front c.0 hold c.1 in
            subst (λ r. Found r × IsNotPast cmp last r) c.2 (found_of l c.0 (subst (λ es. Contains es c.0) (sym split) (Contains-left front rest c.0 c.1)) t)

        of_found : (row : List V) → Found row → IsNotPast cmp last row → Contains rows row
        of_found row f n = elim (either (with_truth row True) ((found row).0 f) n) [
          | inl c ↦ Contains-map (λ (e : Event V). e.row) front (with_truth row True) c
          | inr c ↦ absurd (none (with_truth row True) c refl)
        ]

        certain : (row : List V) → InDoubt row → IsBefore cmp last row → ⊥
        certain row d b = elim (either (with_truth row Out) ((in_doubt row).0 d) (before_not_past last row b)) [
          | inl c ↦ let t : Out ≡ True = All-contains (λ (x : Event V). x.truth ≡ True) front (with_truth row Out) hold c in cc
          | inr c ↦ beyond (with_truth row Out) c b
        ]

        made : (telling : Wording V) (limit : Option ℕ) (final text : List ℕ) (status : Status)
            → EndsLines (λ row. row) InDoubt telling limit rows last final status
            → text ≡ lines telling front ++ final
            → AreWritten cmp Found InDoubt telling limit last text status
        made telling limit final text status ending told = record {
          rows = rows;
          final = final;
          members = λ row. (of_row row, λ p. of_found row p.0 p.1);
          ascending = AllPairs-mapped (λ (e : Event V). e.row) (ComesAfter cmp) front
              (AllPairs-front (λ (e f : Event V). ComesAfter cmp e.row f.row) front rest
              (subst (AllPairs (λ (e f : Event V). ComesAfter cmp e.row f.row)) split h.ascending));
          certain = certain;
          ending = ending;
          whole = told ∙ ap (λ t. t ++ final) (sym (flat_map-map telling.line (λ (e : Event V). e.row) front));
        }

      -- what is written of the events up to where they end is written of rows that are found
      pub written_rows : (telling : Wording V) (limit : Option ℕ) (text : List ℕ) (status : Status) → IsWritten telling limit events last text status
          → AreWritten cmp Found InDoubt telling limit last text status
      written_rows telling limit text status (IsWritten.pauses front e is up hold reached told done) =
          let l = long e (subst (λ es. Contains es e) (sym is) (Contains-right front (e ∷ []) e (Contains-head e []))) up in
          let split = ap (map (λ (e : Event V). e.row)) is ∙ map-append (λ (e : Event V). e.row) front (e ∷ []) in
          made l events [] (sym (append-nil events)) hold (λ x m t. Contains-nil x m) (λ x m b. Contains-nil x m) telling limit telling.more text status
          (EndsLines.enough (map (λ (e : Event V). e.row) front) e.row split up
          (reached ∙ ap Some (sym (length-map events (λ (e : Event V). e.row)))) refl done) told
      written_rows telling limit text status (IsWritten.breaks front e is up hold out below told past) =
          let there : Contains events e = subst (λ es. Contains es e) (sym is) (Contains-right front (e ∷ []) e (Contains-head e [])) in
          let doubt = (in_doubt e.row).1 (subst (IsEvent cmp s ranges after) (ap (λ (u : Truth). with_truth e.row u) out) (is_event e there)) in
          made (long e there up) front (e ∷ []) is hold
          (λ x m t. let z : Out ≡ True = sym out ∙ ap (λ (y : Event V). y.truth) (only e x m) ∙ t in cc)
          (λ x m b. never_itself cmp o ties x.row (subst (λ w. IsBefore cmp w x.row) (up ∙ ap (λ (y : Event V). Some y.row) (only e x m)) b))
          telling limit (telling.out e.row) text status
          (EndsLines.out e.row up doubt (subst (IsBelow limit) (sym (length-map front (λ (e : Event V). e.row))) below) refl past) told
      written_rows telling limit text status (IsWritten.ends none hold below told done) =
          made (long_none none) events [] (sym (append-nil events)) hold (λ x m t. Contains-nil x m)
          (λ x m b. Contains-nil x m) telling limit telling.end text status
          (EndsLines.complete none (subst (IsBelow limit) (sym (length-map events (λ (e : Event V). e.row))) below) refl done) told
