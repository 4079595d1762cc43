-- What is written of parts is written of exactly the values that bindings have at the places.
use Rattle.law_answered.proofs.Prelude.{EachPartIsShown, ◌++◌, ◌<◌, ◌↔◌, ◌∙◌, ◌∷◌, ◌≡◌, ◌⊎◌, [], ap, append-nil, arith, inl, inr, length, List, map, None, Option, refl, Some, subst, sym, ℕ, All-contains, AllPairs, AllPairs-across, AllPairs-head, AllPairs-mapped, Contains, Contains-cases, Contains-either, Contains-head, Contains-left, Contains-map, Contains-mapped, Contains-nil, Contains-right, ComesAfter, Defined, Environment, Event, False, flat_map, flat_map-map, HasLimit, IsBefore, IsBelow, IsBinding, IsEvent, IsInDoubt, IsLater, IsNotPast, length-map, Out, Portion, property, Request, Schema, ShowsParts, Status, True, Truth, Value, value_order, AreEventsUpTo, Wording, map-append, spellings, AllHold, AllPairs-back, AreParts, ArePartsWritten, Done, EndsLines, IsFirstInDoubt, IsFirstWith, IsPartOfBinding, Part, PastBounds, ShowsEachPart, comps_at, has_each_part, part_lines, part_wording, values_at, AllPairs-front}
use Rattle.zf_parts.proofs.Orders.{never_both, never_itself}
use Rattle.law_answered.proofs.Shown.{binding_event, doubt_event, shown_told}
use Rattle.law_answered.proofs.WrittenRows.{with_truth}

apart : (x : Event Value) → x.truth ≡ True → x.truth ≡ Out → ⊥
apart x t o = let same : True ≡ Out = sym t ∙ o in cc

-- a list is empty, or has a last one
last_or_none : {X : Type 0} (xs : List X) → (xs ≡ []) ⊎ ((front : List X) × (x : X) × (xs ≡ front ++ x ∷ []))
last_or_none [] = inl refl
last_or_none {X} (x ∷ xs) = elim (last_or_none xs) [
  | inl none ↦ inr ([], x, ap (λ ys. x ∷ ys) none)
  | inr (front, y, is) ↦ inr (x ∷ front, y, ap (λ ys. x ∷ ys) is)
]

abbrev values_of : Part → List Value
values_of p = p.values

abbrev Follows : Part → Part → Type 0
Follows p q = ComesAfter value_order p.values q.values

module _ (e : Environment) (a : Schema) (ranges : List (List Value)) (start : Option (List Value)) (places : List ℕ) (after : Option (List Value)) (events : List (Event Value)) (parts : List Part)
    (listed : AreEventsUpTo value_order (property e a.conjuncts) ranges start None events) (are : AreParts places after events parts) where
  abbrev pub Found : List Value → Type 0
  Found row = IsBinding e a ranges start row

  abbrev pub InDoubt : List Value → Type 0
  InDoubt row = IsInDoubt e a ranges start row

  abbrev pub OfBinding : List Value → Type 0
  OfBinding values = IsPartOfBinding e a ranges start places after values

  -- ---- rows and events

  binding_in : (row : List Value) → Found row → Contains events (with_truth row True)
  binding_in row b = (listed.members (with_truth row True)).1 ((binding_event e a ranges start row).0 b, tt)

  doubt_in : (row : List Value) → InDoubt row → Contains events (with_truth row Out)
  doubt_in row d = (listed.members (with_truth row Out)).1 ((doubt_event e a ranges start row).0 d, tt)

  is_event : (x : Event Value) → Contains events x → IsEvent value_order (property e a.conjuncts) ranges start x
  is_event x m = ((listed.members x).0 m).0

  with_its : (x : Event Value) (t : Truth) → x.truth ≡ t → x ≡ with_truth x.row t
  with_its x t is = ap (λ (u : Truth). with_truth x.row u) is

  is_binding : (x : Event Value) → Contains events x → x.truth ≡ True → Found x.row
  is_binding x m t = (binding_event e a ranges start x.row).1 (subst (IsEvent value_order (property e a.conjuncts) ranges start) (with_its x True t) (is_event x m))

  is_doubt : (x : Event Value) → Contains events x → x.truth ≡ Out → InDoubt x.row
  is_doubt x m t = (doubt_event e a ranges start x.row).1 (subst (IsEvent value_order (property e a.conjuncts) ranges start) (with_its x Out t) (is_event x m))

  -- ---- the first event of a part

  first_of : (p : Part) → Contains parts p → IsFirstWith places events p.values p.first
  first_of p m = ((are.members p).0 m).0

  part_holds : (p : Part) → Contains parts p → p.first.truth ≡ True → OfBinding p.values
  part_holds p m t =
      let f = first_of p m in
      record {
        row = p.first.row;
        binding = is_binding p.first f.event t;
        has = f.has;
        later = ((are.members p).0 m).1;
        certain = λ other d has before. elim (f.first (with_truth other Out) (doubt_in other d) has) [
          | inl same ↦ apart p.first t (sym (ap (λ (x : Event Value). x.truth) same))
          | inr c ↦ never_both p.first.row other c before
        ];
      }

  part_doubts : (p : Part) → Contains parts p → p.first.truth ≡ Out → IsFirstInDoubt e a ranges start places p.first.row
  part_doubts p m t =
      let f = first_of p m in
      record {
        doubt = is_doubt p.first f.event t;
        first = λ other b has before. elim (f.first (with_truth other True) (binding_in other b) (has ∙ f.has)) [
          | inl same ↦ apart p.first (sym (ap (λ (x : Event Value). x.truth) same)) t
          | inr c ↦ never_both p.first.row other c before
        ];
      }

  -- the values of an event are those of a part
  of_event : (x : Event Value) → Contains events x → IsLater value_order after (values_at places x.row) → (p : Part) × Contains parts p × (p.values ≡ values_at places x.row)
  of_event x m later = (has_each_part places after events parts listed.ascending are (values_at places x.row)).1 ((x, m, refl), later)

  -- those of a binding before which nothing is in doubt are those of a part that holds
  of_binding : (values : List Value) → OfBinding values → (p : Part) × Contains parts p × (p.values ≡ values) × (p.first.truth ≡ True)
  of_binding values b = by (of_event (with_truth b.row True) (binding_in b.row b.binding) (subst (IsLater value_order after) (sym b.has) b.later))
    where
      by : (p : Part) × Contains parts p × (p.values ≡ values_at places b.row) → (p : Part) × Contains parts p × (p.values ≡ values) × (p.first.truth ≡ True)
      by (p, m, same) = (p, m, same ∙ b.has, holds p.first.truth refl)
        where
          doubtful : p.first.truth ≡ Out → ⊥
          doubtful out =
              let f = first_of p m in
              elim (f.first (with_truth b.row True) (binding_in b.row b.binding) (sym same)) [
                | inl is ↦ apart p.first (sym (ap (λ (x : Event Value). x.truth) is)) out
                | inr c ↦ b.certain p.first.row (is_doubt p.first f.event out) (f.has ∙ same ∙ b.has) c
              ]

          holds : (t : Truth) → p.first.truth ≡ t → p.first.truth ≡ True
          holds True is = is
          holds Out is = absurd (doubtful is)
          holds False is = absurd (let i = is_event p.first (first_of p m).event in i.not_false is)

  -- ---- the parts that are written, up to the last ones that are looked at

  pub record AreWritten (w : Wording Value) (limit : Option ℕ) (text : List ℕ) (status : Status) : Type 0 where
    pub rows : List (List Value)
    pub last : Option (List Value)
    pub final : List ℕ
    pub members : (values : List Value) → Contains rows values ↔ (OfBinding values × IsNotPast value_order last values)
    pub ascending : AllPairs (ComesAfter value_order) rows
    pub each : (row : List Value) → Found row ⊎ InDoubt row → IsLater value_order after (values_at places row) → IsBefore value_order last (values_at places row) → Contains rows (values_at places row)
    pub ending : EndsLines (values_at places) (IsFirstInDoubt e a ranges start places) w limit rows last final status
    pub whole : text ≡ flat_map w.line rows ++ final

  module _ (front rest : List Part) (split : parts ≡ front ++ rest) (hold : AllHold front) (last : Option (List Value))
      (reached : (p : Part) → Contains front p → IsNotPast value_order last p.values)
      (beyond : (p : Part) → Contains rest p → p.first.truth ≡ True → IsNotPast value_order last p.values → ⊥)
      (behind : (p : Part) → Contains rest p → IsBefore value_order last p.values → ⊥) where
    abbrev rows : List (List Value)
    rows = map values_of front

    among : (p : Part) → Contains front p → Contains parts p
    among p m = subst (λ ps. Contains ps p) (sym split) (Contains-left front rest p m)

    either : (p : Part) → Contains parts p → Contains front p ⊎ Contains rest p
    either p m = Contains-either front rest p (subst (λ ps. Contains ps p) split m)

    row_of : (p : Part) (values : List Value) → Contains front p → p.values ≡ values → Contains rows values
    row_of p values m same = subst (Contains rows) same (Contains-map values_of front p m)

    written : (values : List Value) → Contains rows values → OfBinding values × IsNotPast value_order last values
    written values m =
        let c = Contains-mapped values_of front values m in
        let t = All-contains (λ (p : Part). p.first.truth ≡ True) front c.0 hold c.1 in
        (subst OfBinding c.2 (part_holds c.0 (among c.0 c.1) t), subst (IsNotPast value_order last) c.2 (reached c.0 c.1))

    is_written : (values : List Value) → OfBinding values → IsNotPast value_order last values → Contains rows values
    is_written values b n =
        let (p, m, same, t) = of_binding values b in
        elim (either p m) [
          | inl there ↦ row_of p values there same
          | inr over ↦ absurd (beyond p over t (subst (IsNotPast value_order last) (sym same) n))
        ]

    event_row : (x : Event Value) → Contains events x → IsLater value_order after (values_at places x.row) → IsBefore value_order last (values_at places x.row) → Contains rows (values_at places x.row)
    event_row x m later before =
        let (p, n, same) = of_event x m later in
        elim (either p n) [
          | inl there ↦ row_of p (values_at places x.row) there same
          | inr over ↦ absurd (behind p over (subst (IsBefore value_order last) (sym same) before))
        ]

    each : (row : List Value) → Found row ⊎ InDoubt row → IsLater value_order after (values_at places row) → IsBefore value_order last (values_at places row)
        → Contains rows (values_at places row)
    each row (inl b) later before = event_row (with_truth row True) (binding_in row b) later before
    each row (inr d) later before = event_row (with_truth row Out) (doubt_in row d) later before

    made : (w : Wording Value) (limit : Option ℕ) (final text : List ℕ) (status : Status)
        → EndsLines (values_at places) (IsFirstInDoubt e a ranges start places) w limit rows last final status
        → text ≡ part_lines w front ++ final → AreWritten w limit text status
    made w limit final text status ending told = record {
      rows = rows;
      last = last;
      final = final;
      members = λ values. (written values, λ h. is_written values h.0 h.1);
      ascending = AllPairs-mapped values_of (ComesAfter value_order) front (AllPairs-front Follows front rest (subst (AllPairs Follows) split are.ascending));
      each = each;
      ending = ending;
      whole = told ∙ ap (λ t. t ++ final) (sym (flat_map-map w.line values_of front));
    }

  -- ---- how they end

  as_many : (front : List Part) → length (map values_of front) ≡ length front
  as_many front = length-map front values_of

  asc : (front rest : List Part) → parts ≡ front ++ rest → AllPairs Follows (front ++ rest)
  asc front rest split = subst (AllPairs Follows) split are.ascending

  -- as many as the limit
  module _ (w : Wording Value) (limit : Option ℕ) (text : List ℕ) (status : Status) (front rest : List Part) (split : parts ≡ front ++ rest) (hold : AllHold front)
      (init : List Part) (q : Part) (is : front ≡ init ++ q ∷ []) where
    q_there : Contains front q
    q_there = subst (λ ps. Contains ps q) (sym is) (Contains-right init (q ∷ []) q (Contains-head q []))

    over : (p : Part) → Contains rest p → ComesAfter value_order q.values p.values
    over p m = AllPairs-across Follows front rest (asc front rest split) q p q_there m

    up_to_last : (p : Part) → Contains front p → IsNotPast value_order (Some q.values) p.values
    up_to_last p m = elim (Contains-either init (q ∷ []) p (subst (λ ps. Contains ps p) is m)) [
      | inl earlier ↦ inr (AllPairs-across Follows init (q ∷ []) (subst (AllPairs Follows) is (AllPairs-front Follows front rest (asc front rest split))) p q earlier (Contains-head q []))
      | inr n ↦ elim (Contains-cases q [] p n) [ inl same ↦ inl (sym (ap values_of same)) | inr none ↦ absurd (Contains-nil p none) ]
    ]

    none_beyond : (p : Part) → Contains rest p → IsNotPast value_order (Some q.values) p.values → ⊥
    none_beyond p m (inl same) = never_itself q.values (subst (ComesAfter value_order q.values) same (over p m))
    none_beyond p m (inr c) = never_both q.values p.values (over p m) c

    none_stands_before : (p : Part) → Contains rest p → IsBefore value_order (Some q.values) p.values → ⊥
    none_stands_before p m c = never_both q.values p.values (over p m) c

    paused : limit ≡ Some (length front) → text ≡ part_lines w front ++ w.more → status ≡ Done → AreWritten w limit text status
    paused full told done =
        made front rest split hold (Some q.values) up_to_last (λ p m t. none_beyond p m) none_stands_before w limit w.more text status
        (EndsLines.enough (map values_of init) q.values (ap (map values_of) is ∙ map-append values_of init (q ∷ []))
        refl (full ∙ ap Some (sym (as_many front))) refl done) told

  -- up to one that is out
  module _ (w : Wording Value) (limit : Option ℕ) (text : List ℕ) (status : Status) (front : List Part) (p : Part) (rest : List Part) (split : parts ≡ front ++ p ∷ rest) (hold : AllHold front)
      (doubt : p.first.truth ≡ Out) where
    p_there : Contains parts p
    p_there = subst (λ ps. Contains ps p) (sym split) (Contains-right front (p ∷ rest) p (Contains-head p rest))

    has : values_at places p.first.row ≡ p.values
    has = (first_of p p_there).has

    before_it : (x : Part) → Contains front x → IsNotPast value_order (Some (values_at places p.first.row)) x.values
    before_it x m = inr (subst (ComesAfter value_order x.values) (sym has) (AllPairs-across Follows front (p ∷ rest) (asc front (p ∷ rest) split) x p m (Contains-head p rest)))

    later_than_it : (x : Part) → Contains rest x → ComesAfter value_order p.values x.values
    later_than_it x m = AllPairs-head Follows p rest (AllPairs-back Follows front (p ∷ rest) (asc front (p ∷ rest) split)) x m

    none_after : (x : Part) → Contains rest x → IsNotPast value_order (Some (values_at places p.first.row)) x.values → ⊥
    none_after x m (inl same) = never_itself p.values (subst (ComesAfter value_order p.values) (same ∙ has) (later_than_it x m))
    none_after x m (inr c) = never_both p.values x.values (later_than_it x m) (subst (ComesAfter value_order x.values) has c)

    none_holds : (x : Part) → Contains (p ∷ rest) x → x.first.truth ≡ True → IsNotPast value_order (Some (values_at places p.first.row)) x.values → ⊥
    none_holds x m t n = elim (Contains-cases p rest x m) [
      | inl same ↦ apart x.first t (subst (λ (y : Part). y.first.truth ≡ Out) same doubt)
      | inr further ↦ none_after x further n
    ]

    none_before : (x : Part) → Contains (p ∷ rest) x → IsBefore value_order (Some (values_at places p.first.row)) x.values → ⊥
    none_before x m c = elim (Contains-cases p rest x m) [
      | inl same ↦ never_itself p.values (subst (λ (y : Part). ComesAfter value_order y.values p.values) (sym same) (subst (ComesAfter value_order x.values) has c))
      | inr further ↦ never_both p.values x.values (later_than_it x further) (subst (ComesAfter value_order x.values) has c)
    ]

    broken : IsBelow limit (length front) → text ≡ part_lines w front ++ w.out p.first.row → status ≡ PastBounds → AreWritten w limit text status
    broken below told past =
        made front (p ∷ rest) split hold (Some (values_at places p.first.row)) before_it none_holds none_before w limit (w.out p.first.row) text status
        (EndsLines.out p.first.row refl (part_doubts p p_there doubt) (subst (IsBelow limit) (sym (as_many front)) below) refl past) told

  -- all of them
  ended : (w : Wording Value) (limit : Option ℕ) (text : List ℕ) (status : Status) → AllHold parts → IsBelow limit (length parts)
      → text ≡ part_lines w parts ++ w.end → status ≡ Done → AreWritten w limit text status
  ended w limit text status hold below told done =
      made parts [] (sym (append-nil parts)) hold None (λ p m. tt) (λ p m t n. Contains-nil p m) (λ p m c. Contains-nil p m) w limit w.end text status
      (EndsLines.complete refl (subst (IsBelow limit) (sym (as_many parts)) below) refl done) told

  pub are_written : (w : Wording Value) (limit : Option ℕ) (text : List ℕ) (status : Status) → HasLimit limit → ArePartsWritten w limit parts text status → AreWritten w limit text status
  are_written w limit text status some (ArePartsWritten.pauses front rest split hold full told done) = elim (last_or_none front) [
    | inl none ↦ absurd (let l : 0 < length front = subst HasLimit full some in let n : length front ≡ 0 = ap (λ (ps : List Part). length ps) none in omega (arith, l, n))
    | inr (init, q, is) ↦ paused w limit text status front rest split hold init q is full told done
  ]
  are_written w limit text status some (ArePartsWritten.breaks front p rest split hold doubt below told past) = broken w limit text status front p rest split hold doubt below told past
  are_written w limit text status some (ArePartsWritten.ends hold below told done) = ended w limit text status hold below told done

each_part_of : (names : List ℕ) (r : Request) (g : List Defined) (a : Schema) (e : Environment) (p : Portion) (text : List ℕ) (status : Status)
    → HasLimit r.limit → ShowsParts names r g a e p text status
    → ShowsEachPart names r g a e p text status
each_part_of names r g a e p text status some s =
    let has = s.listed in
    let all = has.listed in
    let w = are_written e a all.ranges p.after s.places s.after has.events s.parts all.listed has.are
    (part_wording r.format (spellings g) (comps_at a.comps s.places) a.comps) r.limit text status some s.ends in
    record {
      places = s.places;
      of_names = s.of_names;
      after = s.after;
      comes_after = s.comes_after;
      ranges = all.ranges;
      of_components = all.of_components;
      rows = w.rows;
      last = w.last;
      members = w.members;
      ascending = w.ascending;
      each = w.each;
      final = w.final;
      ending = w.ending;
      written = w.whole;
    }

pub each_part_is_shown : EachPartIsShown
each_part_is_shown r names file source g a e p text status some limited granted answer =
    each_part_of names r g a e p text status limited (shown_told (Some names) r file source g a e p text status some granted answer)
