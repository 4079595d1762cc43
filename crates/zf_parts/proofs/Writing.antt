-- The loop over what is kept of parts: what is written so far, and then what is reported of those ahead, is the whole.
use Rattle.zf_parts.proofs.Prelude.{◌++◌, ◌+◌, ◌∙◌, ◌∷◌, ◌≡◌, ◌⊎◌, [], ap, append-nil, append_assoc, arith, inl, inr, List, None, Option, refl, Some, subst, suc, sym, zero, ℕ, Contains-cases, Contains-nil, option_map, Out, True, Value, Part, Appends-nil, Appends-trans, Appends, front_behind, front_longer, Status, Done, PastBounds, AppendsFront, HasLimit, Wording, AreKeptAs, ArePartsWritten, IsKeptAs, StopsKept, WritesKept}
use Rattle.zf_parts.proofs.Keeping.{Entry}
use Rattle.zf_parts.proofs.Telling.{AllAreTold, told, told_of, told_written}

-- the first event of what is kept is True or Out
one_told : (p : Part) (entry : Entry) → IsKeptAs p entry → (p.first.truth ≡ True) ⊎ (p.first.truth ≡ Out)
one_told p (values, None) k = inl k.1
one_told p (values, Some row) k = inr k.1

all_told : (parts : List Part) (entries : List Entry) → AreKeptAs parts entries → AllAreTold parts
all_told [] entries k p m = absurd (Contains-nil p m)
all_told (q ∷ parts) [] k p m = absurd k
all_told (q ∷ parts) (entry ∷ entries) k p m = elim (Contains-cases q parts p m) [
  | inl is ↦ subst (λ (r : Part). (r.first.truth ≡ True) ⊎ (r.first.truth ≡ Out)) is (one_told q entry k.0)
  | inr n ↦ all_told parts entries k.1 p n
]

module _ (w : Wording Value) where
  -- ---- what is reported of parts, by the first of them

  out_first : (left : Option ℕ) (p : Part) (parts : List Part) → HasLimit left → p.first.truth ≡ Out → told w left (p ∷ parts) ≡ (w.out p.first.row, PastBounds)
  out_first None p parts some out = ap (λ t. told_of w p t (told w None parts)) out
  out_first (Some zero) p parts some out = absurd (omega (arith, some))
  out_first (Some (suc n)) p parts some out = ap (λ t. told_of w p t (told w (Some n) parts)) out

  line_first : (left : Option ℕ) (p : Part) (parts : List Part) → HasLimit left → p.first.truth ≡ True
      → (less : Option ℕ) × (left ≡ option_map (λ n. n + 1) less) × (told w left (p ∷ parts) ≡ (w.line p.values ++ (told w less parts).0, (told w less parts).1))
  line_first None p parts some holds = (None, refl, ap (λ t. told_of w p t (told w None parts)) holds)
  line_first (Some zero) p parts some holds = absurd (omega (arith, some))
  line_first (Some (suc n)) p parts some holds = (Some n, ap (λ (k : ℕ). Some k) (omega arith), ap (λ t. told_of w p t (told w (Some n) parts)) holds)

  none_left : (left : Option ℕ) → HasLimit left → told w left [] ≡ (w.end, Done)
  none_left None some = refl
  none_left (Some zero) some = absurd (omega (arith, some))
  none_left (Some (suc n)) some = refl

  same_less : (less other : Option ℕ) → option_map (λ n. n + 1) less ≡ option_map (λ n. n + 1) other → less ≡ other
  same_less None None e = refl
  same_less None (Some n) e = cc
  same_less (Some n) None e = cc
  same_less (Some m) (Some n) e = let k : m + 1 ≡ n + 1 = cc in ap (λ (j : ℕ). Some j) (omega (arith, k))

  -- ---- what is written so far

  module _ (limit : Option ℕ) (entries : List Entry) (old : Option (List ℕ)) where
    -- of whatever parts are kept so
    abbrev pub SoFar : (left : Option ℕ) → (ahead : List Entry) → (now : Option (List ℕ)) → Type 0
    SoFar left ahead now = (parts : List Part) → AreKeptAs parts entries → (rest : List Part) × (written : List ℕ)
        × (told w limit parts ≡ (written ++ (told w left rest).0, (told w left rest).1)) × AreKeptAs rest ahead × Appends old now written

    pub nothing_yet : (ahead : List Entry) → ahead ≡ entries → SoFar limit ahead old
    nothing_yet ahead all parts k = (parts, [], refl, subst (AreKeptAs parts) (sym all) k, Appends-nil old)

    module _ (left : Option ℕ) (ahead : List Entry) (now : Option (List ℕ)) (h : SoFar left ahead now) where
      stops : (later : Option (List ℕ)) (text : List ℕ) → ((rest : List Part) → AreKeptAs rest ahead → (more : List ℕ) × ((told w left rest).0 ≡ text ++ more)) → AppendsFront now later text
          → StopsKept w limit entries old later
      stops later text begins front parts k =
          let (rest, written, is, kept, appended) = h parts k in
          let (more, split) = begins rest kept in
          let whole : (told w limit parts).0 ≡ (written ++ text) ++ more = ap (λ (r : List ℕ × Status). r.0) is ∙ ap (λ t. written ++ t) split ∙ sym (append_assoc written text more) in (
            (told w limit parts).0,
            (told w limit parts).1,
            told_written w limit parts (all_told parts entries k),
            subst (AppendsFront old later) (sym whole) (front_longer old later (written ++ text) more (front_behind old now later written text appended front)),
          )

      writes : (later : Option (List ℕ)) (text : List ℕ) (status : Status) → ((rest : List Part) → AreKeptAs rest ahead → told w left rest ≡ (text, status)) → Appends now later text
          → WritesKept w limit entries status old later
      writes later text status is_all appends parts k =
          let (rest, written, is, kept, appended) = h parts k in
          let all : told w left rest ≡ (text, status) = is_all rest kept in
          let whole : told w limit parts ≡ (written ++ text, status) = is ∙ ap (λ (r : List ℕ × Status). (written ++ r.0, r.1)) all in (
            written ++ text,
            subst (λ (r : List ℕ × Status). ArePartsWritten w limit parts r.0 r.1) whole (told_written w limit parts (all_told parts entries k)),
            Appends-trans old now later written text appended appends,
          )

      -- nothing more is written
      pub stops_here : StopsKept w limit entries old now
      stops_here = stops now [] (λ rest kept. ((told w left rest).0, refl)) ([], ([], refl), Appends-nil now)

      module _ (some : HasLimit left) where
        -- no part is left
        module _ (over : ahead ≡ []) where
          end_told : (rest : List Part) → AreKeptAs rest ahead → told w left rest ≡ (w.end, Done)
          end_told [] kept = none_left left some
          end_told (p ∷ rest) kept = absurd (subst (AreKeptAs (p ∷ rest)) over kept)

          pub stops_in_end : (later : Option (List ℕ)) → AppendsFront now later w.end → StopsKept w limit entries old later
          stops_in_end later = stops later w.end (λ rest kept. ([], ap (λ (r : List ℕ × Status). r.0) (end_told rest kept) ∙ sym (append-nil w.end)))

          pub ends : (later : Option (List ℕ)) (status : Status) → status ≡ Done → Appends now later w.end → WritesKept w limit entries status old later
          ends later status is appends = subst (λ s. WritesKept w limit entries s old later) (sym is) (writes later w.end Done end_told appends)

        module _ (values : List Value) (behind : List Entry) where
          -- the first event of the next part is out
          module _ (row : List Value) (next : ahead ≡ (values, Some row) ∷ behind) where
            out_told : (rest : List Part) → AreKeptAs rest ahead → told w left rest ≡ (w.out row, PastBounds)
            out_told [] kept = absurd (subst (AreKeptAs []) next kept)
            out_told (p ∷ rest) kept =
                let both : IsKeptAs p (values, Some row) × AreKeptAs rest behind = subst (AreKeptAs (p ∷ rest)) next kept in
                let (same, out, is) = both.0 in
                out_first left p rest some out ∙ ap (λ (r : List Value). (w.out r, PastBounds)) (sym is)

            pub stops_in_out : (later : Option (List ℕ)) → AppendsFront now later (w.out row) → StopsKept w limit entries old later
            stops_in_out later = stops later (w.out row) (λ rest kept. ([], ap (λ (r : List ℕ × Status). r.0) (out_told rest kept) ∙ sym (append-nil (w.out row))))

            pub ends_out : (later : Option (List ℕ)) (status : Status) → status ≡ PastBounds → Appends now later (w.out row) → WritesKept w limit entries status old later
            ends_out later status is appends = subst (λ s. WritesKept w limit entries s old later) (sym is) (writes later (w.out row) PastBounds out_told appends)

          -- it holds
          module _ (next : ahead ≡ (values, None) ∷ behind) where
            line_told : (p : Part) (rest : List Part) → AreKeptAs (p ∷ rest) ahead
                → (less : Option ℕ) × (left ≡ option_map (λ n. n + 1) less) × (told w left (p ∷ rest) ≡ (w.line values ++ (told w less rest).0, (told w less rest).1)) × AreKeptAs rest behind
            line_told p rest kept =
                let both : IsKeptAs p (values, None) × AreKeptAs rest behind = subst (AreKeptAs (p ∷ rest)) next kept in
                let (same, holds) = both.0 in
                let (less, e, is) = line_first left p rest some holds in
                (less, e, is ∙ ap (λ (vs : List Value). (w.line vs ++ (told w less rest).0, (told w less rest).1)) (sym same), both.1)

            pub stops_in_line : (later : Option (List ℕ)) → AppendsFront now later (w.line values) → StopsKept w limit entries old later
            stops_in_line later = stops later (w.line values) begins where
              begins : (rest : List Part) → AreKeptAs rest ahead → (more : List ℕ) × ((told w left rest).0 ≡ w.line values ++ more)
              begins [] kept = absurd (subst (AreKeptAs []) next kept)
              begins (p ∷ rest) kept = let (less, e, is, k) = line_told p rest kept in ((told w less rest).0, ap (λ (r : List ℕ × Status). r.0) is)

            pub one_line : (less : Option ℕ) (later : Option (List ℕ)) → left ≡ option_map (λ n. n + 1) less → Appends now later (w.line values) → SoFar less behind later
            one_line less later e appends parts k = let (rest, written, is, kept, appended) = h parts k in go rest written is kept appended where
              go : (rest : List Part) (written : List ℕ) → told w limit parts ≡ (written ++ (told w left rest).0, (told w left rest).1) → AreKeptAs rest ahead → Appends old now written
                  → (rest : List Part) × (written : List ℕ) × (told w limit parts ≡ (written ++ (told w less rest).0, (told w less rest).1)) × AreKeptAs rest behind × Appends old later written
              go [] written is kept appended = absurd (subst (AreKeptAs []) next kept)
              go (p ∷ rest) written is kept appended =
                  let (other, f, first, k) = line_told p rest kept in
                  let same : other ≡ less = same_less other less (sym f ∙ e) in
                  let all : told w left (p ∷ rest) ≡ (w.line values ++ (told w less rest).0, (told w less rest).1) =
                  first ∙ ap (λ (o : Option ℕ). (w.line values ++ (told w o rest).0, (told w o rest).1)) same in (
                    rest,
                    written ++ w.line values,
                    is ∙ ap (λ (r : List ℕ × Status). (written ++ r.0, r.1)) all ∙ ap (λ (t : List ℕ). (t, (told w less rest).1)) (sym (append_assoc written (w.line values) (told w less rest).0)),
                    k,
                    Appends-trans old now later written (w.line values) appended appends,
                  )

      -- the limit is reached
      module _ (spent : left ≡ Some 0) where
        more_told : (rest : List Part) → told w left rest ≡ (w.more, Done)
        more_told rest = ap (λ (o : Option ℕ). told w o rest) spent

        pub stops_in_more : (later : Option (List ℕ)) → AppendsFront now later w.more → StopsKept w limit entries old later
        stops_in_more later = stops later w.more (λ rest kept. ([], ap (λ (r : List ℕ × Status). r.0) (more_told rest) ∙ sym (append-nil w.more)))

        pub ends_at_limit : (later : Option (List ℕ)) (status : Status) → status ≡ Done → Appends now later w.more → WritesKept w limit entries status old later
        ends_at_limit later status is appends = subst (λ s. WritesKept w limit entries s old later) (sym is) (writes later w.more Done (λ rest kept. more_told rest) appends)
