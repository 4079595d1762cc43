-- The lines of a search, one after another: what is written so far, and how it ends.
use Rattle.zf_lines.proofs.Prelude.{◌++◌, ◌+◌, ◌<◌, ◌∙◌, ◌∷◌, ◌≡◌, ◌⊎◌, [], ap, arith, inl, inr, length, length-append, List, None, Option, refl, Some, subst, sym, ℕ, Appends-nil, Appends-trans, Appends, option_map, Conjuncts, Event, Ahead, AreAllAhead, IsNoneAhead, Takes, Out, True, value_order, Value, IsEnd, AppendsFront, AreEventsUpTo, Hold, IsBegun, IsBelow, lines, HasLimit, Wording}
use Rattle.std.proofs.lemmas.List.Elements.{All-push}
use Rattle.zf_value.specs.contracts.plain.ValueOrd.TheImpl.Laws as order_laws
use Rattle.zf_lines.specs.declared.ending.Ending.TheVariants as endings
use Rattle.zf_lines.proofs.Behind.{Behind, none_behind, one_behind, up_to_last, up_to_end}
use Rattle.zf_lines.proofs.Growing.{one_more_line, begun}
use Rattle.zf_lines.proofs.Fronts.{front_behind, front_whole}

below : (limit left : Option ℕ) (n : ℕ) → limit ≡ option_map (λ k. k + n) left → HasLimit left → IsBelow limit n
below limit None n e h = subst (λ l. IsBelow l n) (sym e) tt
below limit (Some k) n e h = subst (λ l. IsBelow l n) (sym e) (omega (arith, h))

one_counted : (limit left after : Option ℕ) (n m : ℕ) → m ≡ n + 1 → limit ≡ option_map (λ k. k + n) left → left ≡ option_map (λ k. k + 1) after → limit ≡ option_map (λ k. k + m) after
one_counted limit left None n m q e f = e ∙ ap (option_map (λ k. k + n)) f
one_counted limit left (Some k) n m q e f = let same : (k + 1) + n ≡ k + m = omega (arith, q) in e ∙ ap (option_map (λ k. k + n)) f ∙ ap (λ (j : ℕ). Some j) same

module _ (words : Wording Value) (limit : Option ℕ) (s : Conjuncts Value) (ranges : List (List Value)) (after : Option (List Value)) where
  -- no line, or the lines up to this row
  abbrev pub IsFirst : (last : Option (List Value)) → List (Event Value) → Type 0
  IsFirst last events = (events ≡ []) ⊎ (AreEventsUpTo value_order s ranges after last events × IsBegun words limit events last (lines words events))

  -- the lines of the events that are after are written; so many bindings may still be
  pub record HasLines (ahead : Ahead Value) (left : Option ℕ) (last : Option (List Value)) (old new : Option (List ℕ)) : Type 0 where
    pub events : List (Event Value)
    pub hold : Hold events
    pub behind : Behind value_order s ranges after ahead events
    pub first : IsFirst last events
    pub counted : limit ≡ option_map (λ n. n + length events) left
    pub written : Appends old new (lines words events)

  pub no_lines : (ahead : Ahead Value) (last : Option (List Value)) (old : Option (List ℕ)) → AreAllAhead value_order s ranges after ahead → HasLines ahead limit last old old
  no_lines ahead last old all = record {
    events = [];
    hold = λ i d l. absurd (omega (arith, l));
    behind = none_behind value_order s ranges after ahead all;
    first = inl refl;
    counted = counted limit;
    written = Appends-nil old;
  } where
    counted : (o : Option ℕ) → o ≡ option_map (λ n. n + 0) o
    counted None = refl
    counted (Some n) = ap (λ (j : ℕ). Some j) (omega arith)

  module _ (ahead next : Ahead Value) (left : Option ℕ) (last : Option (List Value)) (old new : Option (List ℕ)) (h : HasLines ahead left last old new) (some : HasLimit left) where
    -- one more event that holds
    module _ (row : List Value) (t : Takes value_order s ranges after ahead (record { row = row; truth = True }) next) where
      abbrev pub taken : Event Value
      taken = record { row = row; truth = True }

      abbrev pub grown : List (Event Value)
      grown = h.events ++ taken ∷ []

      all_hold : Hold grown
      all_hold = All-push (λ e. e.truth ≡ True) h.events taken h.hold refl

      all_behind : Behind value_order s ranges after next grown
      all_behind = one_behind value_order s ranges after order_laws.total-law ahead next h.events taken t h.behind

      pub first_more : IsFirst (Some row) grown
      first_more = inr (
        up_to_last value_order s ranges after order_laws.total-law h.events taken (subst (λ a. Behind value_order s ranges after a grown) t.passed all_behind),
        subst (λ text. IsBegun words limit grown (Some row) text) (sym (one_more_line words h.events taken))
            (begun words limit h.events taken (lines words h.events) all_hold (below limit left (length h.events) h.counted some) refl),
      )

      pub one_line : (less : Option ℕ) (later : Option (List ℕ)) → left ≡ option_map (λ n. n + 1) less → Appends new later (words.line row) → HasLines next less (Some row) old later
      one_line less later e w = record {
        events = grown;
        hold = all_hold;
        behind = all_behind;
        first = first_more;
        counted = one_counted limit left less (length h.events) (length grown) (length-append h.events (taken ∷ [])) h.counted e;
        written = subst (Appends old later) (sym (one_more_line words h.events taken)) (Appends-trans old new later (lines words h.events) (words.line row) h.written w);
      }

      -- a front of its line is written
      pub part_of_line : (later : Option (List ℕ)) → AppendsFront new later (words.line row) → AppendsFront old later (lines words grown)
      part_of_line later w =
          subst (AppendsFront old later) (sym (one_more_line words h.events taken)) (front_behind old new later (lines words h.events) (words.line row) h.written w)

    -- the next one is out
    pub out_behind : (row : List Value) → Takes value_order s ranges after ahead (record { row = row; truth = Out }) next
        → AreEventsUpTo value_order s ranges after (Some row) (h.events ++ record { row = row; truth = Out } ∷ [])
    out_behind row t = up_to_last value_order s ranges after order_laws.total-law h.events (record { row = row; truth = Out })
        (subst (λ a. Behind value_order s ranges after a (h.events ++ record { row = row; truth = Out } ∷ [])) t.passed
        (one_behind value_order s ranges after order_laws.total-law ahead next h.events (record { row = row; truth = Out }) t h.behind))

    pub out_ended : (row : List Value) → IsEnd limit (h.events ++ record { row = row; truth = Out } ∷ []) h.events (Some row) endings.Out
    out_ended row = (record { row = row; truth = Out }, refl, refl, h.hold, refl, below limit left (length h.events) h.counted some)

    -- none is left
    pub all_behind_end : IsNoneAhead value_order s ranges after ahead → AreEventsUpTo value_order s ranges after None h.events
    all_behind_end none = up_to_end value_order s ranges after ahead h.events none h.behind

    pub end_ended : IsEnd limit h.events h.events None endings.End
    end_ended = (refl, h.hold, below limit left (length h.events) h.counted some, refl)

  -- the limit is reached
  pub more_ended : (ahead : Ahead Value) (last : Option (List Value)) (old new : Option (List ℕ)) (h : HasLines ahead (Some 0) last old new) → HasLimit limit
      → AreEventsUpTo value_order s ranges after last h.events × IsEnd limit h.events h.events last endings.More
  more_ended ahead last old new h some = go h.first where
    go : IsFirst last h.events → AreEventsUpTo value_order s ranges after last h.events × IsEnd limit h.events h.events last endings.More
    go (inl none) = absurd (
        let zero_left : limit ≡ Some 0 = h.counted ∙ ap (λ (es : List (Event Value)). Some (0 + length es)) none in
        let over : 0 < 0 = subst HasLimit zero_left some in omega (arith, over))
    go (inr (listed, b)) = (listed, (b.front, b.event, b.listed, b.up_to, h.hold, h.counted ∙ ap (λ (j : ℕ). Some j) (omega arith), refl))

  -- the lines so far are the first ones
  pub lines_so_far : (ahead : Ahead Value) (left : Option ℕ) (last : Option (List Value)) (old new : Option (List ℕ)) (h : HasLines ahead left last old new)
      → AppendsFront old new (lines words h.events)
  lines_so_far ahead left last old new h = front_whole old new (lines words h.events) h.written
