-- The loop over parts that are the first values: what is ahead has the parts that are left, and no other one.
use Rattle.zf_parts.proofs.Prelude.{◌++◌, ◌+◌, ◌<◌, ◌∙◌, ◌∷◌, ◌≡◌, [], ap, append_assoc, arith, Bool, cond, false, inl, inr, length, List, None, Option, refl, Some, subst, suc, sym, true, zero, ℕ, Contains, AllPairs-head, AllPairs-tail, Contains-cases, Contains-either, Contains-head, Contains-nil, Contains-right, option_map, slice_cmp, Ordering, Equal, Greater, Less, Event, ComesAfter, IsLater, Out, True, value_order, Value, Part, values_at, ◌≤◌, drop, get_or, take, cases_lt, false≢true, drop_all, drop_more, length-take-le, take_all, Appends, cons_option, filter_map, get_or_from_slice_get, slice_get_past, ordering_then, slice_get, conjuncts_of, Goal, property, Status, Done, PastBounds, AppendsFront, HasLimit, IsAtStart, Wording, Schema, IsRowOf-length, Advances, Ahead, IsAhead, IsEvent, past, SameRanges, Stage, Takes, Step, End, AreFirst, FindsParts, StopsParts, WritesParts}
use Rattle.std.proofs.Math.Seq.{take-nil}
use Rattle.zf_lines.proofs.Searching as searching
use Rattle.zf_parts.proofs.Keeping.{event_of}
use Rattle.zf_parts.proofs.Orders.{comes_on, never_both, never_itself, reversed, same_row}
use Rattle.zf_parts.proofs.Putting.{Ascends, Follows}
use Rattle.zf_parts.proofs.SoFar.{ends, none_left, nothing_yet, one_line, out_first, SoFar, Stops, stops_here, stops_in, stops_in_line, Writes}
use Rattle.zf_parts.proofs.Telling.{told}
use Rattle.zf_parts.proofs.Told.{all_parts, got, parts_told}

-- ---- first values

-- what stands at places from n on
from_place : {X : Type 0} (n : ℕ) (places : List ℕ) (row : List X) → ((i : ℕ) → i < length places → get_or places i 0 ≡ n + i)
    → filter_map (slice_get row) places ≡ take (length places) (drop n row)
from_place n [] row h = refl
from_place {X} n (p ∷ places) row h =
    let first : p ≡ n = h 0 (omega arith) ∙ (omega arith) in
    let rest = from_place (n + 1) places row (λ i l. h (suc i) (omega (arith, l)) ∙ (omega arith)) in
    elim (cases_lt n (length row)) [
      | inl near ↦ there near first rest
      | inr past ↦ beyond (omega (arith, past)) first rest
    ] where
      there : n < length row → p ≡ n → filter_map (slice_get row) places ≡ take (length places) (drop (n + 1) row)
          → filter_map (slice_get row) (p ∷ places) ≡ take (suc (length places)) (drop n row)
      there near first rest =
          let (x, at) = got row n near in
          let next : drop n row ≡ x ∷ drop (n + 1) row = drop_more row n x near ∙ ap (λ z. z ∷ drop (n + 1) row) (get_or_from_slice_get row n x x at) in
          ap (λ o. cons_option o (filter_map (slice_get row) places)) (ap (slice_get row) first ∙ at) ∙ ap (λ r. x ∷ r) rest ∙ sym (ap (take (suc (length places))) next)

      beyond : length row ≤ n → p ≡ n → filter_map (slice_get row) places ≡ take (length places) (drop (n + 1) row)
          → filter_map (slice_get row) (p ∷ places) ≡ take (suc (length places)) (drop n row)
      beyond past first rest =
          let none : drop n row ≡ [] = drop_all n row past in
          let none_on : drop (n + 1) row ≡ [] = drop_all (n + 1) row (omega (arith, past)) in
          ap (λ o. cons_option o (filter_map (slice_get row) places)) (ap (slice_get row) first ∙ slice_get_past row n past) ∙ rest
          ∙ ap (take (length places)) none_on ∙ take-nil (length places) ∙ sym (ap (take (suc (length places))) none)

pub first_values : (places : List ℕ) → AreFirst places → (row : List Value) → values_at places row ≡ take (length places) row
first_values places first row = from_place 0 places row (λ i l. first i l ∙ (omega arith))

-- a row is less where its first values are
pub less_by_front : (n : ℕ) (a b : List Value) → ComesAfter value_order (take n a) (take n b) → ComesAfter value_order a b
less_by_front zero a b h = absurd (cc)
less_by_front (suc n) [] [] h = absurd (cc)
less_by_front (suc n) [] (v ∷ b) h = refl
less_by_front (suc n) (x ∷ a) [] h = absurd (cc)
less_by_front (suc n) (x ∷ a) (v ∷ b) h = go (value_order x v) h (less_by_front n a b) where
  go : (q : Ordering) → ordering_then q (slice_cmp value_order (take n a) (take n b)) ≡ Less → (ComesAfter value_order (take n a) (take n b) → ComesAfter value_order a b)
      → ordering_then q (slice_cmp value_order a b) ≡ Less
  go Less k ih = refl
  go Equal k ih = ih k
  go Greater k ih = k

-- what is ahead past the first values of a row has greater ones
module _ (n : ℕ) (row other : List Value) (long : length other ≡ length row) where
  same_front : take (length (take n row)) other ≡ take n other
  same_front = elim (cases_lt (length row) n) [
    | inl short ↦ ap (λ r. take (length r) other) (take_all n row (omega (arith, short))) ∙ take_all (length row) other (omega (arith, long))
        ∙ sym (take_all n other (omega (arith, short, long)))
    | inr deep ↦ ap (λ k. take k other) (length-take-le n row (omega (arith, deep)))
  ]

  pub past_front : IsAhead value_order (past (take n row)) other → ComesAfter value_order (take n row) (take n other)
  past_front (inl h) = subst (ComesAfter value_order (take n row)) same_front h
  past_front (inr h) = absurd (false≢true h.0)

  pub front_past : ComesAfter value_order (take n row) (take n other) → IsAhead value_order (past (take n row)) other
  front_past h = inl (subst (ComesAfter value_order (take n row)) (sym same_front) h)

-- what comes after the named one comes after what does not
pub after_unasked : (after : Option (List Value)) (a b : List Value) → (IsLater value_order after a → ⊥) → IsLater value_order after b → ComesAfter value_order a b
after_unasked None a b never later = absurd (never tt)
after_unasked (Some named) a b never later = go (slice_cmp value_order a b) refl where
  go : (q : Ordering) → slice_cmp value_order a b ≡ q → ComesAfter value_order a b
  go Less e = e
  go Equal e = absurd (never (subst (ComesAfter value_order named) (sym (same_row a b e)) later))
  go Greater e = absurd (never (comes_on named b a later (reversed a b e)))

-- ---- the loop

last_ascend : (xs ys : List Part) → Ascends (xs ++ ys) → Ascends ys
last_ascend [] ys o = o
last_ascend (x ∷ xs) ys o = last_ascend xs ys (AllPairs-tail Follows x (xs ++ ys) o)

module _ (w : Wording Value) (limit : Option ℕ) (places : List ℕ) (after : Option (List Value)) (a : Schema) (g : Goal) (b : Stage Value) where
  abbrev IsOne : Event Value → Type 0
  IsOne x = IsEvent value_order (property g.environment a.conjuncts) b.ranges b.after x

  pub record Fronting (now : Goal) (c : Stage Value) (left : Option ℕ) (old new : Option (List ℕ)) : Type 0 where
    pub parts : List Part
    pub found : FindsParts g.environment a b places after parts
    pub done : List Part
    pub rest : List Part
    pub split : parts ≡ done ++ rest
    pub so_far : SoFar w limit parts old left rest new
    pub some : HasLimit left
    pub ahead : (p : Part) → Contains rest p → IsAhead value_order c.ahead p.first.row
    pub passed : (p : Part) → Contains done p → (x : Event Value) → IsOne x → IsAhead value_order c.ahead x.row → ComesAfter value_order p.values (values_at places x.row)
    pub alike : (x y : Event Value) → IsOne x → IsOne y → values_at places x.row ≡ values_at places y.row → IsAhead value_order c.ahead x.row → IsAhead value_order c.ahead y.row
    pub goal : now ≡ g
    pub same : SameRanges b c

  module _ (start : IsAtStart a g b) (first : AreFirst places) where
    -- the first event of a part is an event, and has its values
    part_event : (parts : List Part) → FindsParts g.environment a b places after parts → (p : Part) → Contains parts p
        → IsOne p.first × (values_at places p.first.row ≡ p.values) × IsLater value_order after p.values
    part_event parts found p m =
        let are = found.are in
        let listed = found.listed in
        let (is_first, later) = (are.members p).0 m in
        (((listed.members p.first).0 is_first.event).0, is_first.has, later)

    pub fronting_first : (old : Option (List ℕ)) → HasLimit limit → Fronting g b limit old old
    fronting_first old some =
        let (parts, found) = all_parts g.environment a b places after in
        record {
          parts = parts;
          found = found;
          done = [];
          rest = parts;
          split = refl;
          so_far = nothing_yet w limit parts old;
          some = some;
          ahead = λ p m. start.ahead p.first (part_event parts found p m).0;
          passed = λ p m x i h. absurd (Contains-nil p m);
          alike = λ x y i j e h. start.ahead y j;
          goal = refl;
          same = record { ranges = refl; after = refl };
        }

    less_by_values : (x y : List Value) → ComesAfter value_order (values_at places x) (values_at places y) → ComesAfter value_order x y
    less_by_values x y h = less_by_front (length places) x y (subst (ComesAfter value_order (take (length places) x)) (first_values places first y)
        (subst (λ v. ComesAfter value_order v (values_at places y)) (first_values places first x) h))

    long : (x y : Event Value) → IsOne x → IsOne y → length y.row ≡ length x.row
    long x y i j = IsRowOf-length b.ranges y.row j.within ∙ sym (IsRowOf-length b.ranges x.row i.within)

    module _ (now : Goal) (c : Stage Value) (left : Option ℕ) (old new : Option (List ℕ)) (h : Fronting now c left old new) where
      as_written : (status : Status) (later : Option (List ℕ)) → Writes w limit h.parts old status later
          → (text : List ℕ) × WritesParts w limit g.environment a b places after text status × Appends old later text
      as_written status later (text, written, appends) = (text, record { parts = h.parts; found = h.found; written = written }, appends)

      as_stopped : (later : Option (List ℕ)) → Stops w limit h.parts old later → StopsParts w limit g.environment a b places after old later
      as_stopped later (text, status, written, front) = inr (text, status, record { parts = h.parts; found = h.found; written = written }, front)

      pub stops_now : StopsParts w limit g.environment a b places after old new
      stops_now = as_stopped new (stops_here w limit h.parts old left h.rest new h.so_far (parts_told g.environment a b places after h.parts h.found))

      module _ (d : Stage Value) where
        by_goal : (step : Step) → Advances value_order (conjuncts_of now) step c d → Advances value_order (conjuncts_of g) step c d
        by_goal step answer = subst (λ (f : Goal). Advances value_order (conjuncts_of f) step c d) h.goal answer

        -- no part is left
        module _ (answer : Advances value_order (conjuncts_of now) End c d) where
          none_rest : h.rest ≡ []
          none_rest = go h.rest (λ p m.
              let there : Contains h.parts p = subst (λ ps. Contains ps p) (sym h.split) (Contains-right h.done h.rest p m) in
              searching.none_left a g b start c d h.same (by_goal End answer) p.first (part_event h.parts h.found p there).0 (h.ahead p m)) where
                go : (rest : List Part) → ((p : Part) → Contains rest p → ⊥) → rest ≡ []
                go [] never = refl
                go (p ∷ rest) never = absurd (never p (Contains-head p rest))

          end_told : told w left h.rest ≡ (w.end, Done)
          end_told = ap (told w left) none_rest ∙ none_left w left h.some

          pub ends_at_end : (later : Option (List ℕ)) → Appends new later w.end → (text : List ℕ) × WritesParts w limit g.environment a b places after text Done × Appends old later text
          ends_at_end later appends = as_written Done later
              (ends w limit h.parts old left h.rest new h.so_far later (parts_told g.environment a b places after h.parts h.found) w.end Done end_told appends)

          pub stops_in_end : (later : Option (List ℕ)) → AppendsFront new later w.end → StopsParts w limit g.environment a b places after old later
          stops_in_end later front = as_stopped later
              (stops_in w limit h.parts old left h.rest new h.so_far later (parts_told g.environment a b places after h.parts h.found) w.end Done end_told front)

        -- an event is taken
        module _ (row : List Value) (is_out : Bool) (taken : Takes value_order (property g.environment a.conjuncts) b.ranges b.after c.ahead (event_of row is_out) d.ahead) where
          abbrev e : Event Value
          e = event_of row is_out

          abbrev part : Part
          part = record { values = values_at places row; first = event_of row is_out }

          -- its part is the next one, if it is asked for
          module _ (later : IsLater value_order after (values_at places row)) where
            in_parts : Contains h.parts (record { values = values_at places row; first = event_of row is_out })
            in_parts =
                let found = h.found in
                let are = found.are in
                let listed = found.listed in
                (are.members (record { values = values_at places row; first = event_of row is_out })).1 (
                  record {
                    event = (listed.members (event_of row is_out)).1 (taken.event, tt);
                    has = refl;
                    first = λ y m q.
                        let i = ((listed.members y).0 m).0 in
                        taken.first y i (h.alike (event_of row is_out) y taken.event i (sym q) taken.ahead);
                  },
                  later,
                )

            in_rest : Contains h.rest (record { values = values_at places row; first = event_of row is_out })
            in_rest = elim (Contains-either h.done h.rest part (subst (λ ps. Contains ps part) h.split in_parts)) [
              | inl m ↦ absurd (never_itself (values_at places row) (h.passed part m (event_of row is_out) taken.event taken.ahead))
              | inr m ↦ m
            ]

            ascending : Ascends (h.done ++ h.rest)
            ascending = let found = h.found in let are = found.are in subst Ascends h.split are.ascending

            pub next : (behind : List Part) × (h.rest ≡ record { values = values_at places row; first = event_of row is_out } ∷ behind)
            next = go h.rest refl in_rest (last_ascend h.done h.rest ascending) where
              go : (rest : List Part) → h.rest ≡ rest → Contains rest (record { values = values_at places row; first = event_of row is_out })
                  → Ascends rest
                  → (behind : List Part) × (h.rest ≡ record { values = values_at places row; first = event_of row is_out } ∷ behind)
              go [] is m o = absurd (Contains-nil part m)
              go (q ∷ behind) is m o = elim (Contains-cases q behind part m) [
                | inl same ↦ (behind, is ∙ ap (λ p. p ∷ behind) same)
                | inr n ↦
                    let less : ComesAfter value_order q.values (values_at places row) = AllPairs-head Follows q behind o part n in
                    let here : Contains h.rest q = subst (λ ps. Contains ps q) (sym is) (Contains-head q behind) in
                    let there : Contains h.parts q = subst (λ ps. Contains ps q) (sym h.split) (Contains-right h.done h.rest q here) in
                    let (i, has, asked) = part_event h.parts h.found q there in
                    absurd (elim (taken.first q.first i (h.ahead q here)) [
                      | inl one ↦ never_itself (values_at places row)
                          (subst (λ v. ComesAfter value_order v (values_at places row)) (sym has ∙ ap (λ (x : Event Value). values_at places x.row) one) less)
                      | inr on ↦ never_both row q.first.row on (less_by_values q.first.row row (subst (λ v. ComesAfter value_order v (values_at places row)) (sym has) less))
                    ])
              ]

            -- its line is written, or a front of it
            module _ (holds : is_out ≡ false) where
              as_held : (event_of row is_out).truth ≡ True
              as_held = ap (λ o. cond o Out True) holds

              pub stops_in_row : (later_written : Option (List ℕ)) → AppendsFront new later_written (w.line (values_at places row))
                  → StopsParts w limit g.environment a b places after old later_written
              stops_in_row later_written front =
                  let (behind, is) = next in
                  as_stopped later_written
                  (stops_in_line w limit h.parts old left h.rest new h.so_far later_written (parts_told g.environment a b places after h.parts h.found) h.some part behind is as_held front)

              module _ (less : Option ℕ) (later_written : Option (List ℕ)) (one : left ≡ option_map (λ n. n + 1) less) (appends : Appends new later_written (w.line (values_at places row)))
                  (spent : less ≡ Some 0) where
                with_line : SoFar w limit h.parts old less next.0 later_written
                with_line = one_line w limit h.parts old left h.rest new h.so_far later_written less part next.0 next.1 one as_held appends

                pub ends_at_limit : (last : Option (List ℕ)) → Appends later_written last w.more
                    → (text : List ℕ) × WritesParts w limit g.environment a b places after text Done × Appends old last text
                ends_at_limit last more = as_written Done last
                    (ends w limit h.parts old less next.0 later_written with_line last (parts_told g.environment a b places after h.parts h.found) w.more Done (ap (λ l. told w l next.0) spent) more)

                pub stops_in_more : (last : Option (List ℕ)) → AppendsFront later_written last w.more → StopsParts w limit g.environment a b places after old last
                stops_in_more last more = as_stopped last
                    (stops_in w limit h.parts old less next.0 later_written with_line last (parts_told g.environment a b places after h.parts h.found) w.more Done (ap (λ l. told w l next.0) spent) more)

            -- it is out of bounds
            module _ (breaks : is_out ≡ true) where
              told_out : told w left h.rest ≡ (w.out row, PastBounds)
              told_out = let (behind, is) = next in ap (told w left) is ∙ out_first w left part behind h.some (ap (λ o. cond o Out True) breaks)

              pub ends_out : (last : Option (List ℕ)) → Appends new last (w.out row) → (text : List ℕ) × WritesParts w limit g.environment a b places after text PastBounds × Appends old last text
              ends_out last out = as_written PastBounds last
                  (ends w limit h.parts old left h.rest new h.so_far last (parts_told g.environment a b places after h.parts h.found) (w.out row) PastBounds told_out out)

              pub stops_in_out : (last : Option (List ℕ)) → AppendsFront new last (w.out row) → StopsParts w limit g.environment a b places after old last
              stops_in_out last out = as_stopped last
                  (stops_in w limit h.parts old left h.rest new h.so_far last (parts_told g.environment a b places after h.parts h.found) (w.out row) PastBounds told_out out)

        -- then the search passes over what begins with its first values
        module _ (row : List Value) (is_out : Bool) (taken : Takes value_order (property g.environment a.conjuncts) b.ranges b.after c.ahead (event_of row is_out) d.ahead)
            (f : Stage Value) (passed : f.ahead ≡ past (take (length places) row)) (later_goal : Goal) (same_goal : later_goal ≡ now) (same_ranges : SameRanges c f) where
          greater : (x : Event Value) → IsOne x → IsAhead value_order f.ahead x.row → ComesAfter value_order (values_at places row) (values_at places x.row)
          greater x i k =
              let past_row = past_front (length places) row x.row (long (event_of row is_out) x taken.event i) (subst (λ (z : Ahead Value). IsAhead value_order z x.row) passed k) in
              subst (λ v. ComesAfter value_order v (values_at places x.row)) (sym (first_values places first row))
              (subst (ComesAfter value_order (take (length places) row)) (sym (first_values places first x.row)) past_row)

          on_ahead : (x : Event Value) → IsOne x → ComesAfter value_order (values_at places row) (values_at places x.row) → IsAhead value_order f.ahead x.row
          on_ahead x i k =
              let front = subst (λ v. ComesAfter value_order v (take (length places) x.row)) (first_values places first row)
              (subst (ComesAfter value_order (values_at places row)) (first_values places first x.row) k) in
              subst (λ (z : Ahead Value). IsAhead value_order z x.row) (sym passed) (front_past (length places) row x.row (long (event_of row is_out) x taken.event i) front)

          moves : (done rest : List Part) → h.parts ≡ done ++ rest → (less : Option ℕ) (later : Option (List ℕ)) → SoFar w limit h.parts old less rest later → HasLimit less
              → ((p : Part) → Contains rest p → ComesAfter value_order (values_at places row) p.values)
              → ((p : Part) → Contains done p → (v : List Value) → ComesAfter value_order (values_at places row) v → ComesAfter value_order p.values v)
              → Fronting later_goal f less old later
          moves done rest split less later so_far some above below = record {
            parts = h.parts;
            found = h.found;
            done = done;
            rest = rest;
            split = split;
            so_far = so_far;
            some = some;
            ahead = λ p m.
                let there : Contains h.parts p = subst (λ ps. Contains ps p) (sym split) (Contains-right done rest p m) in
                let (i, has, asked) = part_event h.parts h.found p there in
                on_ahead p.first i (subst (ComesAfter value_order (values_at places row)) (sym has) (above p m));
            passed = λ p m x i k. below p m (values_at places x.row) (greater x i k);
            alike = λ x y i j e k. on_ahead y j (subst (ComesAfter value_order (values_at places row)) e (greater x i k));
            goal = same_goal ∙ h.goal;
            same = searching.same_later b c f h.same same_ranges;
          }

          before : (p : Part) → Contains h.done p → (v : List Value) → ComesAfter value_order (values_at places row) v → ComesAfter value_order p.values v
          before p m v k = comes_on p.values (values_at places row) v (h.passed p m (event_of row is_out) taken.event taken.ahead) k

          -- a part that is not asked for
          pub goes_past : (IsLater value_order after (values_at places row) → ⊥) → Fronting later_goal f left old new
          goes_past never = moves h.done h.rest h.split left new h.so_far h.some
              (λ p m.
              let there : Contains h.parts p = subst (λ ps. Contains ps p) (sym h.split) (Contains-right h.done h.rest p m) in
              let (i, has, asked) = part_event h.parts h.found p there in
              after_unasked after (values_at places row) p.values never asked)
              before

          -- one that is, and whose line is written
          module _ (later : IsLater value_order after (values_at places row)) (holds : is_out ≡ false) where
            pub goes_on : (less : Option ℕ) (now_written : Option (List ℕ)) → left ≡ option_map (λ n. n + 1) less → HasLimit less → Appends new now_written (w.line (values_at places row))
                → Fronting later_goal f less old now_written
            goes_on less now_written e some appends =
                let part : Part = record { values = values_at places row; first = event_of row is_out } in
                let (behind, is) = next row is_out taken later in
                let order = subst Ascends is (last_ascend h.done h.rest (ascending row is_out taken later)) in
                let true' : (event_of row is_out).truth ≡ True = ap (λ o. cond o Out True) holds in
                moves (h.done ++ part ∷ []) behind (h.split ∙ ap (λ ps. h.done ++ ps) is ∙ sym (append_assoc h.done (part ∷ []) behind)) less now_written
                (one_line w limit h.parts old left h.rest new h.so_far now_written less part behind is e true' appends) some
                (λ p m. AllPairs-head Follows part behind order p m)
                (λ p m v k. elim (Contains-either h.done (part ∷ []) p m) [
                  | inl n ↦ before p n v k
                  | inr n ↦ elim (Contains-cases part [] p n) [
                    | inl one ↦ subst (λ (q : Part). ComesAfter value_order q.values v) one k
                    | inr none ↦ absurd (Contains-nil p none)
                  ]
                ])
