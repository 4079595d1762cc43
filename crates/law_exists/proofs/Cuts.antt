-- What is written of a list of events: up to the last one that is written, or all.
use Rattle.law_exists.proofs.Prelude.{◌++◌, ◌+◌, ◌∙◌, ◌∷◌, ◌≡◌, ◌⊎◌, [], ap, append-nil, append_assoc, arith, inl, inr, length, length-append, List, None, Option, refl, Some, subst, sym, take, ℕ, ⊎_elim, cases_lt, IsTotalOrder, lists_total, slice_cmp, ◌≢◌, AllPairs, Contains, Ordering, Greater, Less, Conjuncts, Event, IsEvent, IsEvents, ComesAfter, Truth, False, Out, True, AreEventsUpTo, breaks, ends, Hold, IsBelow, IsWritten, lines, pauses, Status, Wording, AllPairs-across, AllPairs-back, AllPairs-cons, AllPairs-head, AllPairs-nil, AllPairs-tail, Contains-cases, Contains-either, Contains-head, Contains-later, Contains-left, Contains-nil, Contains-right}
use Rattle.std.specs.Ordering.{ordering_reverse}
use Rattle.std.proofs.lemmas.List.{take_all}
use Rattle.std.proofs.lemmas.List.Elements.{All-nil, All-push}
use Rattle.zf_walk.proofs.Picks.{IsRowOf-length}
use Rattle.zf_lines.specs.declared.fault.Status.TheVariants.{Done, PastBounds}

-- ---- a list of events is cut after one of them, or not

-- the events up to one of them, which is the last one, or all of them
abbrev pub IsCut : {V : Type 0} → List (Event V) → Option (List V) → List (Event V) → Type 0
IsCut {V} all last events =
    ((front : List (Event V)) × (e : Event V) × (rest : List (Event V)) × (all ≡ front ++ e ∷ rest) × (events ≡ front ++ e ∷ []) × (last ≡ Some e.row)) ⊎ ((events ≡ all) × (last ≡ None))

-- what is written of all
pub record AreWritten {V : Type 0} (w : Wording V) (limit : Option ℕ) (all : List (Event V)) : Type 0 where
  pub last : Option (List V)
  pub events : List (Event V)
  pub text : List ℕ
  pub status : Status
  pub cut : IsCut all last events
  pub written : IsWritten w limit events last text status

-- one more reaches the limit or stays below it
reached : (limit : Option ℕ) (n : ℕ) → IsBelow limit n → (limit ≡ Some (n + 1)) ⊎ IsBelow limit (n + 1)
reached None n l = inr tt
reached (Some k) n l = elim (cases_lt (n + 1) k) [ inl m ↦ inr m | inr m ↦ inl (let e : k ≡ n + 1 = omega arith in ap Some e) ]

module _ {V : Type 0} (w : Wording V) (limit : Option ℕ) (all : List (Event V)) where
  ended : (front : List (Event V)) → all ≡ front → Hold front → IsBelow limit (length front) → AreWritten w limit all
  ended front e h l = record {
    last = None;
    events = front;
    text = lines w front ++ w.end;
    status = Done;
    cut = inr (sym e, refl);
    written = ends refl h l refl refl;
  }

  broken : (front : List (Event V)) (e : Event V) (rest : List (Event V)) → all ≡ front ++ e ∷ rest → Hold front → e.truth ≡ Out → IsBelow limit (length front) → AreWritten w limit all
  broken front e rest is h o l = record {
    last = Some e.row;
    events = front ++ e ∷ [];
    text = lines w front ++ w.out e.row;
    status = PastBounds;
    cut = inl (front, e, rest, is, refl, refl);
    written = breaks front e refl refl h o l refl refl;
  }

  paused : (front : List (Event V)) (e : Event V) (rest : List (Event V)) → all ≡ front ++ e ∷ rest → Hold (front ++ e ∷ []) → limit ≡ Some (length (front ++ e ∷ [])) → AreWritten w limit all
  paused front e rest is h l = record {
    last = Some e.row;
    events = front ++ e ∷ [];
    text = lines w (front ++ e ∷ []) ++ w.more;
    status = Done;
    cut = inl (front, e, rest, is, refl, refl);
    written = pauses front e refl refl h l refl refl;
  }

  -- an event that is not False, after those that hold
  next_written : (front : List (Event V)) (x : Event V) (xs : List (Event V)) (t : Truth) → x.truth ≡ t → t ≢ False → all ≡ front ++ x ∷ xs → Hold front → IsBelow limit (length front)
      → (all ≡ (front ++ x ∷ []) ++ xs → Hold (front ++ x ∷ []) → IsBelow limit (length (front ++ x ∷ [])) → AreWritten w limit all) → AreWritten w limit all
  next_written front x xs False is n e h l on = absurd (n refl)
  next_written front x xs Out is n e h l on = broken front x xs e h is l
  next_written front x xs True is n e h l on =
      let longer : length (front ++ x ∷ []) ≡ length front + 1 = length-append front (x ∷ []) in
      let hold = All-push (λ (f : Event V). f.truth ≡ True) front x h is in
      ⊎_elim (λ r. paused front x xs e hold (r ∙ ap Some (sym longer))) (λ b. on (e ∙ sym (append_assoc front (x ∷ []) xs)) hold
      (subst (IsBelow limit) (sym longer) b)) (reached limit (length front) l)

  written_from : (rest front : List (Event V)) → all ≡ front ++ rest → Hold front → IsBelow limit (length front) → ((f : Event V) → Contains rest f → f.truth ≢ False) → AreWritten w limit all
  written_from [] front e h l n = ended front (e ∙ append-nil front) h l
  written_from (x ∷ xs) front e h l n = next_written front x xs x.truth refl (n x (Contains-head x xs)) e h l (λ e h l. written_from xs (front ++ x ∷ []) e h l (λ f m. n f (Contains-later x xs f m)))

  pub some_written : IsBelow limit 0 → ((f : Event V) → Contains all f → f.truth ≢ False) → AreWritten w limit all
  some_written l n = written_from all [] refl (All-nil (λ (f : Event V). f.truth ≡ True)) l n

-- ---- the events up to a row

pub AllPairs-front : {X : Type 0} (R : X → X → Type 0) (xs ys : List X) → AllPairs R (xs ++ ys) → AllPairs R xs
AllPairs-front R [] ys o = AllPairs-nil R
AllPairs-front R (x ∷ xs) ys o =
    AllPairs-cons R x xs (λ y m. AllPairs-head R x (xs ++ ys) o y (Contains-left xs ys y m)) (AllPairs-front R xs ys (AllPairs-tail R x (xs ++ ys) o))

module _ {V : Type 0} (cmp : V → V → Ordering) (order : IsTotalOrder cmp) (s : Conjuncts V) (ranges : List (List V)) (after : Option (List V)) where
  never_both : (a b : List V) → ComesAfter cmp a b → ComesAfter cmp b a → ⊥
  never_both a b h k = let e : slice_cmp cmp a b ≡ Greater = (lists_total order).antisymm a b ∙ ap ordering_reverse k in let f : Less ≡ Greater = sym h ∙ e in (cc)

  -- the row of one event has as many values as that of another
  up_to_of : (e f : Event V) → IsEvent cmp s ranges after e → IsEvent cmp s ranges after f → take (length f.row) e.row ≡ e.row
  up_to_of e f h k = take_all (length f.row) e.row (let a = IsRowOf-length ranges e.row h.within in let b = IsRowOf-length ranges f.row k.within in omega arith)

  abbrev IsBefore : Event V → Event V → Type 0
  IsBefore e f = ComesAfter cmp e.row f.row

  up_to_event : (front rest : List (Event V)) (e : Event V) → IsEvents cmp s ranges after (front ++ e ∷ rest) → AreEventsUpTo cmp s ranges after (Some e.row) (front ++ e ∷ [])
  up_to_event front rest e h = record {
    ascending = AllPairs-front IsBefore (front ++ e ∷ []) rest (subst (AllPairs IsBefore) whole h.ascending);
    members = λ f. (
      λ m. let i = (h.members f).0 (there f m) in (i, λ c. not_after f m (subst (λ r. slice_cmp cmp r f.row ≡ Less) (up_to_of e f here i) c)),
      λ i. back f i.0 (λ c. i.1 (subst (λ r. slice_cmp cmp r f.row ≡ Less) (sym (up_to_of e f here i.0)) c)),
    );
  }
    where
      here : IsEvent cmp s ranges after e
      here = (h.members e).0 (Contains-right front (e ∷ rest) e (Contains-head e rest))

      alone : (f : Event V) → Contains (e ∷ []) f → e ≡ f
      alone f m = ⊎_elim (λ q. q) (λ n. absurd (Contains-nil f n)) (Contains-cases e [] f m)

      whole : front ++ e ∷ rest ≡ (front ++ e ∷ []) ++ rest
      whole = sym (append_assoc front (e ∷ []) rest)

      there : (f : Event V) → Contains (front ++ e ∷ []) f → Contains (front ++ e ∷ rest) f
      there f m = subst (λ es. Contains es f) (sym whole) (Contains-left (front ++ e ∷ []) rest f m)

      not_after : (f : Event V) → Contains (front ++ e ∷ []) f → ComesAfter cmp e.row f.row → ⊥
      not_after f m c =
          ⊎_elim (λ a. never_both f.row e.row (AllPairs-across IsBefore front (e ∷ rest) h.ascending f e a (Contains-head e rest)) c)
          (λ b. let q = subst (λ (g : Event V). ComesAfter cmp e.row g.row) (sym (alone f b)) c in never_both e.row e.row q q) (Contains-either front (e ∷ []) f m)

      back : (f : Event V) → IsEvent cmp s ranges after f → (ComesAfter cmp e.row f.row → ⊥) → Contains (front ++ e ∷ []) f
      back f i n =
          ⊎_elim (λ a. a) (λ k. absurd (n (AllPairs-head IsBefore e rest (AllPairs-back IsBefore front (e ∷ rest) h.ascending) f k)))
          (Contains-either (front ++ e ∷ []) rest f (subst (λ es. Contains es f) whole ((h.members f).1 i)))

  pub cut_events : (all : List (Event V)) (last : Option (List V)) (events : List (Event V)) → IsEvents cmp s ranges after all → IsCut all last events → AreEventsUpTo cmp s ranges after last events
  cut_events all last events h (inl c) =
      subst (λ l. AreEventsUpTo cmp s ranges after l events) (sym c.5) (subst (AreEventsUpTo cmp s ranges after (Some c.1.row)) (sym c.4)
      (up_to_event c.0 c.2 c.1 (subst (IsEvents cmp s ranges after) c.3 h)))
  cut_events all last events h (inr c) =
      subst (λ l. AreEventsUpTo cmp s ranges after l events) (sym c.1) (subst (AreEventsUpTo cmp s ranges after None) (sym c.0)
      (record { ascending = h.ascending; members = λ f. (λ m. ((h.members f).0 m, tt), λ i. (h.members f).1 i.0) }))

  pub not_false : (all : List (Event V)) → IsEvents cmp s ranges after all → (f : Event V) → Contains all f → f.truth ≢ False
  not_false all h f m = let i = (h.members f).0 m in i.not_false
