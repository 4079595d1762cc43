-- The loop over the numbers of parts: those that are left have numbers from here on.
use Rattle.zf_parts.proofs.Prelude.{◌++◌, ◌+◌, ◌<◌, ◌∙◌, ◌∷◌, ◌≡◌, [], ap, append_assoc, arith, inl, inr, List, None, Option, refl, Some, subst, sym, true, ℕ, Contains, AllPairs-head, AllPairs-tail, Contains-cases, Contains-either, Contains-head, Contains-nil, Contains-right, option_map, Event, ComesAfter, IsLater, True, value_order, Value, Part, values_at, ◌≤◌, cases_eq, cases_lt, false≢true, Appends, Format, property, Status, Done, PastBounds, AppendsFront, HasLimit, Wording, Environment, Comp, Schema, Spelling, ended, IsAhead, IsEvent, Stage, Met, AreAllMarked, AreFree, end_status, end_text, FindsParts, is_marked, IsEndOf, IsFirstOf, IsNumber, part_wording, ranges_at, StopsParts, total, WritesParts}
use Rattle.zf_parts.proofs.Numbering.{ascending_all, in_order, number_below, one_number, one_row, some_number}
use Rattle.zf_parts.proofs.Orders.{never_both, never_itself}
use Rattle.zf_parts.proofs.Putting.{Ascends, Follows}
use Rattle.zf_parts.proofs.SoFar.{ends, none_left, nothing_yet, one_line, out_first, SoFar, Stops, stops_here, stops_in, stops_in_line, Writes}
use Rattle.zf_parts.proofs.Telling.{AllAreTold, told}
use Rattle.zf_parts.proofs.Told.{all_parts, parts_told}

-- how the text ends, in the words of a wording
abbrev pub end_of : Wording Value → Option (List Value) → List ℕ
end_of w None = w.end
end_of w (Some row) = w.out row

pub same_end : (f : Format) (ss : List Spelling) (part whole : List Comp) (out : Option (List Value)) → end_text f ss whole out ≡ end_of (part_wording f ss part whole) out
same_end f ss part whole None = refl
same_end f ss part whole (Some row) = refl

-- nothing is ahead of the end
never_ahead : (row : List Value) → IsAhead value_order ended row → ⊥
never_ahead row (inl h) = absurd (cc)
never_ahead row (inr h) = absurd (false≢true h.0)

last_ascend : (xs ys : List Part) → Ascends (xs ++ ys) → Ascends ys
last_ascend [] ys o = o
last_ascend (x ∷ xs) ys o = last_ascend xs ys (AllPairs-tail Follows x (xs ++ ys) o)

module _ (w : Wording Value) (limit : Option ℕ) (e : Environment) (a : Schema) (b : Stage Value) (places : List ℕ) (after : Option (List Value)) (m : Met) where
  pub record Listing (from : ℕ) (left : Option ℕ) (old new : Option (List ℕ)) : Type 0 where
    pub parts : List Part
    pub found : FindsParts e a b places after parts
    pub done : List Part
    pub rest : List Part
    pub split : parts ≡ done ++ rest
    pub so_far : SoFar w limit parts old left rest new
    pub some : HasLimit left
    pub low : from ≤ m.end
    pub below : (p : Part) → Contains done p → (n : ℕ) → IsNumber (ranges_at b.ranges places) p.values n → n < from
    pub above : (p : Part) → Contains rest p → (n : ℕ) → IsNumber (ranges_at b.ranges places) p.values n → from ≤ n

  pub listing_first : (old : Option (List ℕ)) → HasLimit limit → Listing 0 limit old old
  listing_first old some =
      let (parts, found) = all_parts e a b places after in
      record {
        parts = parts;
        found = found;
        done = [];
        rest = parts;
        split = refl;
        so_far = nothing_yet w limit parts old;
        some = some;
        low = omega arith;
        below = λ p c n is. absurd (Contains-nil p c);
        above = λ p c n is. omega arith;
      }

  module _ (all : AreAllMarked e a b places after m) (from : ℕ) (left : Option ℕ) (old new : Option (List ℕ)) (h : Listing from left old new) where
    all_told : AllAreTold h.parts
    all_told = parts_told e a b places after h.parts h.found

    as_written : (status : Status) (later : Option (List ℕ)) → Writes w limit h.parts old status later
        → (text : List ℕ) × WritesParts w limit e a b places after text status × Appends old later text
    as_written status later (text, written, appends) = (text, record { parts = h.parts; found = h.found; written = written }, appends)

    as_stopped : (later : Option (List ℕ)) → Stops w limit h.parts old later → StopsParts w limit e a b places after old later
    as_stopped later (text, status, written, front) = inr (text, status, record { parts = h.parts; found = h.found; written = written }, front)

    pub stops_now : StopsParts w limit e a b places after old new
    stops_now = as_stopped new (stops_here w limit h.parts old left h.rest new h.so_far all_told)

    -- the first event of a part is an event, has its values, and these have a number
    part_event : (p : Part) → Contains h.parts p
        → IsEvent value_order (property e a.conjuncts) b.ranges b.after p.first × (values_at places p.first.row ≡ p.values) × IsLater value_order after p.values
        × ((n : ℕ) × IsNumber (ranges_at b.ranges places) p.values n)
    part_event p c =
        let found = h.found in
        let are = found.are in
        let listed = found.listed in
        let weighs = all.weights in
        let (is_first, later) = (are.members p).0 c in
        let event = ((listed.members p.first).0 is_first.event).0 in
        let (n, is) = some_number b.ranges p.first.row event.within places weighs.below in
        (event, is_first.has, later, (n, subst (λ vs. IsNumber (ranges_at b.ranges places) vs n) is_first.has is))

    in_rest_there : (p : Part) → Contains h.rest p → Contains h.parts p
    in_rest_there p c = subst (λ ps. Contains ps p) (sym h.split) (Contains-right h.done h.rest p c)

    -- a part that is left comes before the end only if its number is marked
    is_there : (p : Part) → Contains h.rest p → (n : ℕ) → IsNumber (ranges_at b.ranges places) p.values n → n < m.end → is_marked m.marks n ≡ true
    is_there p c n is near =
        let (event, has, later, number) = part_event p (in_rest_there p c) in
        elim (all.met p.first event) [
          | inl k ↦ absurd (never_ahead p.first.row k)
          | inr met ↦ met (subst (IsLater value_order after) (sym has) later) n (subst (λ vs. IsNumber (ranges_at b.ranges places) vs n) (sym has) is) near
        ]

    ordered : (vs us : List Value) (n k : ℕ) → IsNumber (ranges_at b.ranges places) vs n → IsNumber (ranges_at b.ranges places) us k → ComesAfter value_order vs us → n < k
    ordered vs us n k is number less =
        let weighs = all.weights in
        let o = ascending_all b.ranges places all.ascending weighs.below in
        elim (cases_lt n k) [
          | inl l ↦ l
          | inr no_less ↦ absurd (elim (cases_eq n k) [
            | inl same ↦
                let one : vs ≡ us = one_row (ranges_at b.ranges places) vs us n is (subst (IsNumber (ranges_at b.ranges places) us) (sym same) number) in
                never_itself us (subst (λ v. ComesAfter value_order v us) one less)
            | inr other ↦ never_both vs us less (in_order (ranges_at b.ranges places) us vs k n o number is (omega (arith, no_less, other)))
          ])
        ]

    -- the next part is the one with this number
    module _ (n : ℕ) (x : Event Value) (is : IsFirstOf e a b.ranges b.after places after n x) (from_here : from ≤ n) (near : n ≤ m.end) (free : AreFree m.marks from n) where
      in_parts : Contains h.parts (record { values = values_at places x.row; first = x })
      in_parts =
          let found = h.found in
          let are = found.are in
          let listed = found.listed in
          (are.members (record { values = values_at places x.row; first = x })).1 (
            record {
              event = (listed.members x).1 (is.event, tt);
              has = refl;
              first = λ y c q. is.first y ((listed.members y).0 c).0 q;
            },
            is.asked,
          )

      in_rest : Contains h.rest (record { values = values_at places x.row; first = x })
      in_rest = elim (Contains-either h.done h.rest (record { values = values_at places x.row; first = x }) (subst (λ ps. Contains ps (record { values = values_at places x.row; first = x })) h.split in_parts)) [
        | inl c ↦ absurd (omega (arith, from_here, h.below (record { values = values_at places x.row; first = x }) c n is.number))
        | inr c ↦ c
      ]

      pub ascending_rest : Ascends h.rest
      ascending_rest = let found = h.found in let are = found.are in last_ascend h.done h.rest (subst Ascends h.split are.ascending)

      pub next_is : (behind : List Part) × (h.rest ≡ record { values = values_at places x.row; first = x } ∷ behind)
      next_is = go h.rest refl in_rest ascending_rest where
        go : (rest : List Part) → h.rest ≡ rest → Contains rest (record { values = values_at places x.row; first = x }) → Ascends rest
            → (behind : List Part) × (h.rest ≡ record { values = values_at places x.row; first = x } ∷ behind)
        go [] same c o = absurd (Contains-nil (record { values = values_at places x.row; first = x }) c)
        go (q ∷ behind) same c o = elim (Contains-cases q behind (record { values = values_at places x.row; first = x }) c) [
          | inl one ↦ (behind, same ∙ ap (λ p. p ∷ behind) one)
          | inr later ↦
              let less : ComesAfter value_order q.values (values_at places x.row) = AllPairs-head Follows q behind o (record { values = values_at places x.row; first = x }) later in
              let here : Contains h.rest q = subst (λ ps. Contains ps q) (sym same) (Contains-head q behind) in
              let (event, has, asked, (k, number)) = part_event q (in_rest_there q here) in
              let fewer : k < n = ordered q.values (values_at places x.row) k n number is.number less in
              absurd (false≢true (sym (free k (h.above q here k number) fewer) ∙ is_there q here k number (omega (arith, fewer, near))))
        ]

    -- ---- a part that is marked

    module _ (n : ℕ) (from_here : from ≤ n) (near : n < m.end) (free : AreFree m.marks from n) (marked : is_marked m.marks n ≡ true)
        (vs : List Value) (number : IsNumber (ranges_at b.ranges places) vs n) where
      abbrev one : (x : Event Value) × IsFirstOf e a b.ranges b.after places after n x × (x.truth ≡ True)
      one = all.holds n near marked

      abbrev part : Part
      part = record { values = values_at places one.0.row; first = one.0 }

      line_is : w.line vs ≡ w.line (values_at places one.0.row)
      line_is = let is = one.1 in ap w.line (one_row (ranges_at b.ranges places) vs (values_at places one.0.row) n number is.number)

      next : (behind : List Part) × (h.rest ≡ record { values = values_at places one.0.row; first = one.0 } ∷ behind)
      next = next_is n one.0 one.1 from_here (omega (arith, near)) free

      pub stops_in_row : (later : Option (List ℕ)) → AppendsFront new later (w.line vs) → StopsParts w limit e a b places after old later
      stops_in_row later front = as_stopped later
          (stops_in_line w limit h.parts old left h.rest new h.so_far later all_told h.some part next.0 next.1 one.2 (subst (AppendsFront new later) line_is front))

      module _ (less : Option ℕ) (later : Option (List ℕ)) (one_less : left ≡ option_map (λ n. n + 1) less) (appends : Appends new later (w.line vs)) where
        line_more : SoFar w limit h.parts old less next.0 later
        line_more = one_line w limit h.parts old left h.rest new h.so_far later less part next.0 next.1 one_less one.2 (subst (Appends new later) line_is appends)

        pub goes_on : HasLimit less → Listing (n + 1) less old later
        goes_on some = record {
          parts = h.parts;
          found = h.found;
          done = h.done ++ part ∷ [];
          rest = next.0;
          split = h.split ∙ ap (λ ps. h.done ++ ps) next.1 ∙ sym (append_assoc h.done (part ∷ []) next.0);
          so_far = line_more;
          some = some;
          low = omega (arith, near);
          below = λ p c k is. elim (Contains-either h.done (part ∷ []) p c) [
            | inl before ↦ omega (arith, from_here, h.below p before k is)
            | inr last ↦ elim (Contains-cases part [] p last) [
              | inl same ↦ of_one k (subst (λ (q : Part). IsNumber (ranges_at b.ranges places) q.values k) (sym same) is)
              | inr none ↦ absurd (Contains-nil p none)
            ]
          ];
          above = λ p c k is.
              let first = one.1 in
              let order : Ascends (part ∷ next.0) = subst Ascends next.1 (ascending_rest n one.0 one.1 from_here (omega (arith, near)) free) in
              let l = ordered (values_at places one.0.row) p.values n k first.number is (AllPairs-head Follows part next.0 order p c) in omega (arith, l);
        } where
          of_one : (k : ℕ) → IsNumber (ranges_at b.ranges places) (values_at places one.0.row) k → k < n + 1
          of_one k is =
              let first = one.1 in
              let weighs = all.weights in
              let same = one_number (ranges_at b.ranges places) (values_at places one.0.row) k n (ascending_all b.ranges places all.ascending weighs.below) is first.number in
              omega (arith, same)

        -- the limit is reached
        module _ (spent : less ≡ Some 0) where
          more_told : told w less next.0 ≡ (w.more, Done)
          more_told = ap (λ o. told w o next.0) spent

          pub ends_at_limit : (last : Option (List ℕ)) → Appends later last w.more → (text : List ℕ) × WritesParts w limit e a b places after text Done × Appends old last text
          ends_at_limit last more = as_written Done last (ends w limit h.parts old less next.0 later line_more last all_told w.more Done more_told more)

          pub stops_in_more : (last : Option (List ℕ)) → AppendsFront later last w.more → StopsParts w limit e a b places after old last
          stops_in_more last front = as_stopped last (stops_in w limit h.parts old less next.0 later line_more last all_told w.more Done more_told front)

    -- ---- no part is marked before the end

    module _ (free : AreFree m.marks from m.end) where
      none_rest : m.end ≡ total (ranges_at b.ranges places) → h.rest ≡ []
      none_rest whole = go h.rest refl where
        go : (rest : List Part) → h.rest ≡ rest → h.rest ≡ []
        go [] same = same
        go (q ∷ behind) same =
            let here : Contains h.rest q = subst (λ ps. Contains ps q) (sym same) (Contains-head q behind) in
            let (event, has, asked, (k, number)) = part_event q (in_rest_there q here) in
            let near : k < m.end = omega (arith, whole, number_below (ranges_at b.ranges places) q.values k number) in
            absurd (false≢true (sym (free k (h.above q here k number) near) ∙ is_there q here k number near))

      end_told : (out : Option (List Value)) → IsEndOf e a b.ranges b.after places after m.end out → told w left h.rest ≡ (end_of w out, end_status out)
      end_told None whole = ap (told w left) (none_rest whole) ∙ none_left w left h.some
      end_told (Some row) (x, is, truth, same) =
          let (behind, next) = next_is m.end x is h.low (omega arith) free in
          ap (told w left) next ∙ out_first w left (record { values = values_at places x.row; first = x }) behind h.some truth ∙ ap (λ r. (w.out r, PastBounds)) same

      pub ends_there : (later : Option (List ℕ)) → Appends new later (end_of w m.out) → (text : List ℕ) × WritesParts w limit e a b places after text (end_status m.out) × Appends old later text
      ends_there later appends = as_written (end_status m.out) later (ends w limit h.parts old left h.rest new h.so_far later all_told (end_of w m.out) (end_status m.out) (end_told m.out all.ends) appends)

      pub stops_there : (later : Option (List ℕ)) → AppendsFront new later (end_of w m.out) → StopsParts w limit e a b places after old later
      stops_there later front = as_stopped later (stops_in w limit h.parts old left h.rest new h.so_far later all_told (end_of w m.out) (end_status m.out) (end_told m.out all.ends) front)

      pub stops_by : (later : Option (List ℕ)) (text : List ℕ) → text ≡ end_of w m.out → AppendsFront new later text → StopsParts w limit e a b places after old later
      stops_by later text same front = stops_there later (subst (AppendsFront new later) same front)
