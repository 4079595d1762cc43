-- The text and the status of parts, as they follow from one part after another.
use Rattle.zf_parts.proofs.Prelude.{◌++◌, ◌+◌, ◌∙◌, ◌∷◌, ◌≡◌, ◌⊎◌, [], ap, append_assoc, arith, inl, inr, length, List, None, Option, refl, Some, subst, suc, sym, zero, ℕ, Contains, Contains-head, Contains-later, option_map, Truth, False, Out, True, Value, Part, All-cons, All-head, All-nil, All-tail, Status, Done, PastBounds, IsBelow, Wording, AllHold, ArePartsWritten, breaks, ends, OneTextOfParts, part_lines, pauses, SomeTextOfParts}

abbrev IsTrue : Part → Type 0
IsTrue p = p.first.truth ≡ True

-- the first event of each is True or Out
abbrev pub AllAreTold : List Part → Type 0
AllAreTold parts = (p : Part) → Contains parts p → (p.first.truth ≡ True) ⊎ (p.first.truth ≡ Out)

module _ (w : Wording Value) where
  -- what is reported of a part with this truth, and of those after it
  abbrev pub told_of : Part → Truth → List ℕ × Status → List ℕ × Status
  told_of p Out rest = (w.out p.first.row, PastBounds)
  told_of p True rest = (w.line p.values ++ rest.0, rest.1)
  told_of p False rest = (w.line p.values ++ rest.0, rest.1)

  -- what is reported of parts, of which so many may still be written
  abbrev pub told : Option ℕ → List Part → List ℕ × Status
  told None [] = (w.end, Done)
  told None (p ∷ parts) = told_of p p.first.truth (told None parts)
  told (Some zero) parts = (w.more, Done)
  told (Some (suc n)) [] = (w.end, Done)
  told (Some (suc n)) (p ∷ parts) = told_of p p.first.truth (told (Some n) parts)

  -- ---- it is what is written

  longer : (p : Part) (front : List Part) (t : List ℕ) → w.line p.values ++ (part_lines w front ++ t) ≡ part_lines w (p ∷ front) ++ t
  longer p front t = sym (append_assoc (w.line p.values) (part_lines w front) t)

  told_true : (p : Part) → p.first.truth ≡ True → (rest : List ℕ × Status) (front : List Part) (t : List ℕ) (s : Status) → rest ≡ (part_lines w front ++ t, s)
      → told_of p p.first.truth rest ≡ (part_lines w (p ∷ front) ++ t, s)
  told_true p holds rest front t s e = ap (λ u. told_of p u rest) holds ∙ ap (λ (r : List ℕ × Status). told_of p True r) e ∙ ap (λ (u : List ℕ). (u, s)) (longer p front t)

  told_more : (front rest : List Part) → AllHold front → told (Some (length front)) (front ++ rest) ≡ (part_lines w front ++ w.more, Done)
  told_more [] rest h = refl
  told_more (p ∷ front) rest h = told_true p (All-head IsTrue p front h) (told (Some (length front)) (front ++ rest)) front w.more Done (told_more front rest (All-tail IsTrue p front h))

  told_out : (limit : Option ℕ) (front : List Part) (p : Part) (rest : List Part) → AllHold front → p.first.truth ≡ Out → IsBelow limit (length front)
      → told limit (front ++ p ∷ rest) ≡ (part_lines w front ++ w.out p.first.row, PastBounds)
  told_out None [] p rest h o b = ap (λ u. told_of p u (told None rest)) o
  told_out (Some zero) [] p rest h o b = absurd (omega (arith, b))
  told_out (Some (suc n)) [] p rest h o b = ap (λ u. told_of p u (told (Some n) rest)) o
  told_out None (q ∷ front) p rest h o b = told_true q (All-head IsTrue q front h) (told None (front ++ p ∷ rest)) front (w.out p.first.row) PastBounds
      (told_out None front p rest (All-tail IsTrue q front h) o tt)
  told_out (Some zero) (q ∷ front) p rest h o b = absurd (omega (arith, b))
  told_out (Some (suc n)) (q ∷ front) p rest h o b = told_true q (All-head IsTrue q front h) (told (Some n) (front ++ p ∷ rest)) front (w.out p.first.row) PastBounds
      (told_out (Some n) front p rest (All-tail IsTrue q front h) o (omega (arith, b)))

  told_end : (limit : Option ℕ) (parts : List Part) → AllHold parts → IsBelow limit (length parts) → told limit parts ≡ (part_lines w parts ++ w.end, Done)
  told_end None [] h b = refl
  told_end (Some zero) [] h b = absurd (omega (arith, b))
  told_end (Some (suc n)) [] h b = refl
  told_end None (p ∷ parts) h b = told_true p (All-head IsTrue p parts h) (told None parts) parts w.end Done (told_end None parts (All-tail IsTrue p parts h) tt)
  told_end (Some zero) (p ∷ parts) h b = absurd (omega (arith, b))
  told_end (Some (suc n)) (p ∷ parts) h b = told_true p (All-head IsTrue p parts h) (told (Some n) parts) parts w.end Done
      (told_end (Some n) parts (All-tail IsTrue p parts h) (omega (arith, b)))

  is_told : (limit : Option ℕ) (parts : List Part) (text : List ℕ) (status : Status) → ArePartsWritten w limit parts text status → told limit parts ≡ (text, status)
  is_told limit parts text status (pauses front rest split h full t s) =
      ap (λ (l : Option ℕ). told l parts) full ∙ ap (told (Some (length front))) split ∙ told_more front rest h ∙ ap (λ (u : List ℕ). (u, Done)) (sym t) ∙ ap (λ (r : Status). (text, r)) (sym s)
  is_told limit parts text status (breaks front p rest split h o b t s) =
      ap (told limit) split ∙ told_out limit front p rest h o b ∙ ap (λ (u : List ℕ). (u, PastBounds)) (sym t) ∙ ap (λ (r : Status). (text, r)) (sym s)
  is_told limit parts text status (ends h b t s) =
      told_end limit parts h b ∙ ap (λ (u : List ℕ). (u, Done)) (sym t) ∙ ap (λ (r : Status). (text, r)) (sym s)

  -- ---- and the other way round

  behind : (left limit : Option ℕ) (n : ℕ) → limit ≡ option_map suc left → IsBelow left n → IsBelow limit (suc n)
  behind None limit n e b = subst (λ l. IsBelow l (suc n)) (sym e) tt
  behind (Some m) limit n e b = subst (λ l. IsBelow l (suc n)) (sym e) (omega (arith, b))

  one_more : (p : Part) → p.first.truth ≡ True → (left limit : Option ℕ) → limit ≡ option_map suc left → (parts : List Part) (text : List ℕ) (status : Status)
      → ArePartsWritten w left parts text status → ArePartsWritten w limit (p ∷ parts) (w.line p.values ++ text) status
  one_more p holds left limit e parts text status (pauses front rest split h full t s) =
      pauses (p ∷ front) rest (ap (λ ps. p ∷ ps) split) (All-cons IsTrue p front holds h) (e ∙ ap (option_map suc) full)
      (ap (λ u. w.line p.values ++ u) t ∙ longer p front w.more) s
  one_more p holds left limit e parts text status (breaks front q rest split h o b t s) =
      breaks (p ∷ front) q rest (ap (λ ps. p ∷ ps) split) (All-cons IsTrue p front holds h) o (behind left limit (length front) e b)
      (ap (λ u. w.line p.values ++ u) t ∙ longer p front (w.out q.first.row)) s
  one_more p holds left limit e parts text status (ends h b t s) =
      ends (All-cons IsTrue p parts holds h) (behind left limit (length parts) e b) (ap (λ u. w.line p.values ++ u) t ∙ longer p parts w.end) s

  none_held : AllHold []
  none_held = All-nil IsTrue

  first_written : (p : Part) (left limit : Option ℕ) → limit ≡ option_map suc left → (parts : List Part) → (p.first.truth ≡ True) ⊎ (p.first.truth ≡ Out)
      → (rest : List ℕ × Status) → ArePartsWritten w left parts rest.0 rest.1
      → (all : List ℕ × Status) → all ≡ told_of p p.first.truth rest → ArePartsWritten w limit (p ∷ parts) all.0 all.1
  first_written p left limit e parts (inl holds) rest h all is =
      let same : all ≡ (w.line p.values ++ rest.0, rest.1) = is ∙ ap (λ t. told_of p t rest) holds in
      subst (λ (r : List ℕ × Status). ArePartsWritten w limit (p ∷ parts) r.0 r.1) (sym same) (one_more p holds left limit e parts rest.0 rest.1 h)
  first_written p left limit e parts (inr out) rest h all is =
      let same : all ≡ (w.out p.first.row, PastBounds) = is ∙ ap (λ t. told_of p t rest) out in
      subst (λ (r : List ℕ × Status). ArePartsWritten w limit (p ∷ parts) r.0 r.1) (sym same) (breaks [] p parts refl none_held out (below left limit e) refl refl) where
        below : (left limit : Option ℕ) → limit ≡ option_map suc left → IsBelow limit 0
        below None limit e = subst (λ l. IsBelow l 0) (sym e) tt
        below (Some n) limit e = subst (λ l. IsBelow l 0) (sym e) (omega arith)

  pub told_written : (limit : Option ℕ) (parts : List Part) → AllAreTold parts → ArePartsWritten w limit parts (told limit parts).0 (told limit parts).1
  told_written None [] h = ends none_held tt refl refl
  told_written None (p ∷ parts) h = first_written p None None refl parts (h p (Contains-head p parts)) (told None parts)
      (told_written None parts (λ q m. h q (Contains-later p parts q m))) (told None (p ∷ parts)) refl
  told_written (Some zero) parts h = pauses [] parts refl none_held refl refl refl
  told_written (Some (suc n)) [] h = ends none_held (omega arith) refl refl
  told_written (Some (suc n)) (p ∷ parts) h = first_written p (Some n) (Some (suc n)) refl parts (h p (Contains-head p parts)) (told (Some n) parts)
      (told_written (Some n) parts (λ q m. h q (Contains-later p parts q m))) (told (Some (suc n)) (p ∷ parts)) refl

pub one_text_of_parts : OneTextOfParts
one_text_of_parts w limit parts text other status last h k =
    let same : (text, status) ≡ (other, last) = sym (is_told w limit parts text status h) ∙ is_told w limit parts other last k in
    (ap (λ (r : List ℕ × Status). r.0) same, ap (λ (r : List ℕ × Status). r.1) same)

-- the truth of what is no False event
pub true_or_out : (t : Truth) → (t ≡ False → ⊥) → (t ≡ True) ⊎ (t ≡ Out)
true_or_out True h = inl refl
true_or_out False h = absurd (h refl)
true_or_out Out h = inr refl

pub some_text_of_parts : SomeTextOfParts
some_text_of_parts w limit places after events parts never h =
    ((told w limit parts).0, (told w limit parts).1, told_written w limit parts (λ p m. let (first, later) = (h.members p).0 m in true_or_out p.first.truth (never p.first first.event)))
