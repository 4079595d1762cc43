-- What is written so far, and then what is reported of the parts that are left, is the whole.
use Rattle.zf_parts.proofs.Prelude.{◌++◌, ◌+◌, ◌∙◌, ◌∷◌, ◌≡◌, [], ap, append-nil, append_assoc, arith, List, None, Option, refl, Some, subst, suc, sym, zero, ℕ, option_map, Out, True, Value, Part, Appends-nil, Appends-trans, Appends, front_behind, front_longer, Status, Done, PastBounds, AppendsFront, HasLimit, Wording, ArePartsWritten}
use Rattle.zf_parts.proofs.Telling.{AllAreTold, told, told_of, told_written}

module _ (w : Wording Value) where
  -- ---- what is reported of parts, by the first of them

  pub out_first : (left : Option ℕ) (p : Part) (parts : List Part) → HasLimit left → p.first.truth ≡ Out → told w left (p ∷ parts) ≡ (w.out p.first.row, PastBounds)
  out_first None p parts some out = ap (λ t. told_of w p t (told w None parts)) out
  out_first (Some zero) p parts some out = absurd (omega (arith, some))
  out_first (Some (suc n)) p parts some out = ap (λ t. told_of w p t (told w (Some n) parts)) out

  -- one less is left after it
  pub line_first : (left less : Option ℕ) (p : Part) (parts : List Part) → left ≡ option_map (λ n. n + 1) less → p.first.truth ≡ True
      → told w left (p ∷ parts) ≡ (w.line p.values ++ (told w less parts).0, (told w less parts).1)
  line_first left None p parts e holds = ap (λ l. told w l (p ∷ parts)) e ∙ ap (λ t. told_of w p t (told w None parts)) holds
  line_first left (Some n) p parts e holds =
      let one : left ≡ Some (suc n) = e ∙ ap (λ (k : ℕ). Some k) (omega arith) in
      ap (λ l. told w l (p ∷ parts)) one ∙ ap (λ t. told_of w p t (told w (Some n) parts)) holds

  pub line_begins : (left : Option ℕ) (p : Part) (parts : List Part) → HasLimit left → p.first.truth ≡ True → (more : List ℕ) × ((told w left (p ∷ parts)).0 ≡ w.line p.values ++ more)
  line_begins None p parts some holds = ((told w None parts).0, ap (λ (r : List ℕ × Status). r.0) (line_first None None p parts refl holds))
  line_begins (Some zero) p parts some holds = absurd (omega (arith, some))
  line_begins (Some (suc n)) p parts some holds =
      ((told w (Some n) parts).0, ap (λ (r : List ℕ × Status). r.0) (line_first (Some (suc n)) (Some n) p parts (ap (λ (k : ℕ). Some k) (omega arith)) holds))

  pub none_left : (left : Option ℕ) → HasLimit left → told w left [] ≡ (w.end, Done)
  none_left None some = refl
  none_left (Some zero) some = absurd (omega (arith, some))
  none_left (Some (suc n)) some = refl

  -- ---- the whole, from what is written

  module _ (limit : Option ℕ) (parts : List Part) (old : Option (List ℕ)) where
    pub record SoFar (left : Option ℕ) (rest : List Part) (now : Option (List ℕ)) : Type 0 where
      pub written : List ℕ
      pub is : told w limit parts ≡ (written ++ (told w left rest).0, (told w left rest).1)
      pub appended : Appends old now written

    -- the text is written, or a front of it
    abbrev pub Writes : Status → Option (List ℕ) → Type 0
    Writes status later = (text : List ℕ) × ArePartsWritten w limit parts text status × Appends old later text

    abbrev pub Stops : Option (List ℕ) → Type 0
    Stops later = (text : List ℕ) × (status : Status) × ArePartsWritten w limit parts text status × AppendsFront old later text

    pub nothing_yet : SoFar limit parts old
    nothing_yet = record { written = []; is = refl; appended = Appends-nil old }

    module _ (left : Option ℕ) (rest : List Part) (now : Option (List ℕ)) (h : SoFar left rest now) (later : Option (List ℕ)) where
      -- a line more
      pub one_line : (less : Option ℕ) (p : Part) (behind : List Part) → rest ≡ p ∷ behind → left ≡ option_map (λ n. n + 1) less → p.first.truth ≡ True
          → Appends now later (w.line p.values) → SoFar less behind later
      one_line less p behind next e holds appends =
          let all : told w left rest ≡ (w.line p.values ++ (told w less behind).0, (told w less behind).1) = ap (told w left) next ∙ line_first left less p behind e holds in
          let written = h.written in
          record {
            written = written ++ w.line p.values;
            is = h.is ∙ ap (λ (r : List ℕ × Status). (written ++ r.0, r.1)) all
                ∙ ap (λ (t : List ℕ). (t, (told w less behind).1)) (sym (append_assoc written (w.line p.values) (told w less behind).0));
            appended = Appends-trans old now later written (w.line p.values) h.appended appends;
          }

      module _ (all_told : AllAreTold parts) where
        pub stops : (text more : List ℕ) → (told w left rest).0 ≡ text ++ more → AppendsFront now later text → Stops later
        stops text more split front =
            let written = h.written in
            let whole : (told w limit parts).0 ≡ (written ++ text) ++ more =
            ap (λ (r : List ℕ × Status). r.0) h.is ∙ ap (λ t. written ++ t) split ∙ sym (append_assoc written text more) in (
              (told w limit parts).0,
              (told w limit parts).1,
              told_written w limit parts all_told,
              subst (AppendsFront old later) (sym whole) (front_longer old later (written ++ text) more (front_behind old now later written text h.appended front)),
            )

        -- all that is reported is written
        pub stops_in : (text : List ℕ) (status : Status) → told w left rest ≡ (text, status) → AppendsFront now later text → Stops later
        stops_in text status all front = stops text [] (ap (λ (r : List ℕ × Status). r.0) all ∙ sym (append-nil text)) front

        pub ends : (text : List ℕ) (status : Status) → told w left rest ≡ (text, status) → Appends now later text → Writes status later
        ends text status all appends =
            let written = h.written in
            let whole : told w limit parts ≡ (written ++ text, status) = h.is ∙ ap (λ (r : List ℕ × Status). (written ++ r.0, r.1)) all in (
              written ++ text,
              subst (λ (r : List ℕ × Status). ArePartsWritten w limit parts r.0 r.1) whole (told_written w limit parts all_told),
              Appends-trans old now later written text h.appended appends,
            )

        -- a line of which a front is written
        pub stops_in_line : HasLimit left → (p : Part) (behind : List Part) → rest ≡ p ∷ behind → p.first.truth ≡ True → AppendsFront now later (w.line p.values) → Stops later
        stops_in_line some p behind next holds front =
            let (more, begins) = line_begins left p behind some holds in
            stops (w.line p.values) more (ap (λ ps. (told w left ps).0) next ∙ begins) front

    -- nothing more is written
    pub stops_here : (left : Option ℕ) (rest : List Part) (now : Option (List ℕ)) → SoFar left rest now → AllAreTold parts → Stops now
    stops_here left rest now h all_told = stops left rest now h now all_told [] (told w left rest).0 refl ([], ([], refl), Appends-nil now)
