-- A line of some components is the line of a row of these; and each such line is one.
use Rattle.zf_read.proofs.Prelude.{◌++◌, ◌+◌, ◌∙◌, ◌∷◌, ◌≡◌, [], add-one, ap, List, None, Option, refl, Some, suc, sym, zero, ℕ, slice_get, Value, Comp, Environment, IsRow, component_text, component_texts, AreChosen, goes_on, comma_before, HoldNext, IsElsewhere, IsPart, nothing_of, with_values, Spelling, HeldIsLine, LineIsHeld, goes_on-first, goes_on-later, goes_on-nil, subst}
use Rattle.std.specs.Prelude.{◌≢◌, set}

-- ---- lists by place

set_there : (xs : List (Option Value)) (i : ℕ) (v : Value) → slice_get (set xs i (Some v)) i ≡ Some None → ⊥
set_there [] zero v h = cc
set_there [] (suc i) v h = cc
set_there (x ∷ xs) zero v h = cc
set_there (x ∷ xs) (suc i) v h = set_there xs i v h

set_elsewhere : (xs : List (Option Value)) (i j : ℕ) (v : Option Value) → i ≢ j → slice_get (set xs i v) j ≡ slice_get xs j
set_elsewhere [] i j v d = refl
set_elsewhere (x ∷ xs) zero zero v d = absurd (d refl)
set_elsewhere (x ∷ xs) zero (suc j) v d = refl
set_elsewhere (x ∷ xs) (suc i) zero v d = refl
set_elsewhere (x ∷ xs) (suc i) (suc j) v d = set_elsewhere xs i j v (λ q. d (ap suc q))

free_there : (cs : List Comp) (i : ℕ) (c : Comp) → slice_get cs i ≡ Some c → slice_get (nothing_of cs) i ≡ Some None
free_there [] zero c h = cc
free_there [] (suc i) c h = cc
free_there (x ∷ cs) zero c h = refl
free_there (x ∷ cs) (suc i) c h = free_there cs i c h

-- of these components no value is held
abbrev AreFree : List (Option Value) → List ℕ → Type 0
AreFree before [] = Unit {0}
AreFree before (p ∷ places) = (slice_get before p ≡ Some None) × AreFree before places

all_free : (cs : List Comp) (places : List ℕ) (chosen : List Comp) → AreChosen cs places chosen → AreFree (nothing_of cs) places
all_free cs [] [] h = tt
all_free cs [] (c ∷ chosen) h = absurd h
all_free cs (p ∷ places) [] h = absurd h
all_free cs (p ∷ places) (c ∷ chosen) h = (free_there cs p c h.1, all_free cs places chosen h.2)

still_free : (before : List (Option Value)) (place : ℕ) (v : Value) (places : List ℕ) → IsElsewhere places place → AreFree before places → AreFree (set before place (Some v)) places
still_free before place v [] h free = tt
still_free before place v (p ∷ places) h free = (set_elsewhere before place p (Some v) (λ q. h.0 (sym q)) ∙ free.0, still_free before place v places h.1 free.1)

elsewhere : (before : List (Option Value)) (place : ℕ) (v : Value) (places : List ℕ) → AreFree (set before place (Some v)) places → IsElsewhere places place
elsewhere before place v [] free = tt
elsewhere before place v (p ∷ places) free =
    (λ q. set_there before place v (subst (λ i. slice_get (set before place (Some v)) i ≡ Some None) q free.0), elsewhere before place v places free.1)

free_before : (before : List (Option Value)) (place : ℕ) (v : Value) (places : List ℕ) → IsElsewhere places place → AreFree (set before place (Some v)) places → AreFree before places
free_before before place v [] h free = tt
free_before before place v (p ∷ places) h free = (sym (set_elsewhere before place p (Some v) (λ q. h.0 (sym q))) ∙ free.0, free_before before place v places h.1 free.1)

module _ (ss : List Spelling) (e : Environment) (cs : List Comp) where
  -- ---- a held line is the line of a row

  record IsLineNext (n : ℕ) (bytes : List ℕ) (before held : List (Option Value)) : Type 0 where
    pub places : List ℕ
    pub chosen : List Comp
    pub values : List Value
    pub are_chosen : AreChosen cs places chosen
    pub free : AreFree before places
    pub row : IsRow e chosen values
    pub line : bytes ≡ goes_on n (component_texts ss chosen values)
    pub are_held : held ≡ with_values before places values

  line_further : (n : ℕ) (bytes rest : List ℕ) (before held : List (Option Value)) (place : ℕ) (v : Value) → IsPart ss e cs n bytes before place v rest
      → IsLineNext (n + 1) rest (set before place (Some v)) held → IsLineNext n bytes before held
  line_further n bytes rest before held place v part h =
      let texts = component_texts ss h.chosen h.values in
      let apart = elsewhere before place v h.places h.free in
      record {
        places = place ∷ h.places;
        chosen = part.comp ∷ h.chosen;
        values = v ∷ h.values;
        are_chosen = (apart, part.there, h.are_chosen);
        free = (part.free, free_before before place v h.places apart h.free);
        row = (v, h.values, refl, part.of_type, h.row);
        line = part.stands ∙ ap (λ l. comma_before n ++ (component_text ss part.comp v ++ l)) (h.line ∙ goes_on-later n (n + 1) texts (add-one n)) ∙ sym (goes_on-first n (component_text ss part.comp v) texts);
        are_held = h.are_held;
      }

  next_is_line : (n : ℕ) (bytes : List ℕ) (before : List (Option Value)) (parts : List (ℕ × Value)) (held : List (Option Value)) → HoldNext ss e cs n bytes before parts held → IsLineNext n bytes before held
  next_is_line n bytes before [] held h = record { places = []; chosen = []; values = []; are_chosen = tt; free = tt; row = refl; line = h.0 ∙ sym (goes_on-nil n); are_held = h.1 }
  next_is_line n bytes before (p ∷ parts) held (rest, part, h) = line_further n bytes rest before held p.0 p.1 part (next_is_line (n + 1) rest (set before p.0 (Some p.1)) parts held h)

  -- ---- each such line is held

  abbrev HoldSome : ℕ → List ℕ → (before held : List (Option Value)) → Type 0
  HoldSome n bytes before held = (parts : List (ℕ × Value)) × HoldNext ss e cs n bytes before parts held

  one_more : (n : ℕ) (bytes rest : List ℕ) (before held : List (Option Value)) (place : ℕ) (v : Value) → IsPart ss e cs n bytes before place v rest
      → HoldSome (n + 1) rest (set before place (Some v)) held → HoldSome n bytes before held
  one_more n bytes rest before held place v part (parts, h) = ((place, v) ∷ parts, (rest, part, h))

  line_is_next : (n : ℕ) (bytes : List ℕ) (before held : List (Option Value)) (places : List ℕ) (chosen : List Comp) (vs : List Value) → AreChosen cs places chosen → AreFree before places
      → IsRow e chosen vs → bytes ≡ goes_on n (component_texts ss chosen vs) → held ≡ with_values before places vs → HoldSome n bytes before held
  line_is_next n bytes before held [] [] vs ch free row q are = ([], (q ∙ ap (λ ws. goes_on n (component_texts ss [] ws)) row ∙ goes_on-nil n, are))
  line_is_next n bytes before held [] (c ∷ chosen) vs ch free row q are = absurd ch
  line_is_next n bytes before held (p ∷ places) [] vs ch free row q are = absurd ch
  line_is_next n bytes before held (p ∷ places) (c ∷ chosen) vs (apart, there, ch) (first, free) (v, ws, is, of_type, row) q are =
      let texts = component_texts ss chosen ws in
      one_more n bytes (goes_on (n + 1) texts) before held p v
      (record {
        comp = c;
        there = there;
        free = first;
        of_type = of_type;
        stands = q ∙ ap (λ us. goes_on n (component_texts ss (c ∷ chosen) us)) is ∙ goes_on-first n (component_text ss c v) texts
            ∙ ap (λ l. comma_before n ++ (component_text ss c v ++ l)) (sym (goes_on-later n (n + 1) texts (add-one n)));
      })
      (line_is_next (n + 1) (goes_on (n + 1) texts) (set before p (Some v)) held places chosen ws ch (still_free before p v places apart free) row refl
      (are ∙ ap (with_values before (p ∷ places)) is))

pub held_is_line : HeldIsLine
held_is_line ss e cs text held (parts, h) =
    let line = next_is_line ss e cs 0 text (nothing_of cs) parts held h in
    record { places = line.places; chosen = line.chosen; values = line.values; are_chosen = line.are_chosen; row = line.row; line = line.line; are_held = line.are_held }

pub line_is_held : LineIsHeld
line_is_held ss e cs text held h =
    line_is_next ss e cs 0 text (nothing_of cs) held h.places h.chosen h.values h.are_chosen (all_free cs h.places h.chosen h.are_chosen) h.row h.line h.are_held
