-- A text is the line of a row of the components' types, or of none; and that of some of the components, which holds values of their types, or of none.
use Rattle.law_answered.proofs.Prelude.{◌++◌, ◌∙◌, ◌∷◌, ◌≡◌, [], ap, arith, inl, inr, length, List, None, Option, refl, Some, subst, sym, ℕ, cases_eq, Value, Comp, Environment, IsOfType, Decided, decided_lists, decided_some, binding_text, spellings, EveryHeldLineIsJudged, map, types, EveryLineIsJudged}
use Rattle.std.proofs.Common.{◌+◌, ◌≤◌, append_assoc, codes, drop, length-append, suc, zero}
use Rattle.std.specs.Prelude.{set, slice_get}
use Rattle.std.proofs.lemmas.Option.{same_Some}
use Rattle.zf_print.specs.declared.spelling.Spelling.{Spelling}
use Rattle.zf_print.specs.{comma_before, component_text, value_text}
use Rattle.zf_read.specs.{HoldNext, nothing_of}
use Rattle.zf_read.proofs.HeldSoFar.{component_parts}
use Rattle.law_answered.proofs.ListedValues.{rows_listed, values_listed}

-- ---- of a row

pub every_line_is_judged : EveryLineIsJudged
every_line_is_judged e comps None = inl (None, refl)
every_line_is_judged e comps (Some text) =
    elim (decided_some (λ row. text ≡ binding_text (spellings e.globals) comps row) (rows_listed e (types (map (λ c. c.type) comps)))
    (λ row. decided_lists cases_eq text (binding_text (spellings e.globals) comps row))) [
      | inl found ↦ inl (Some found.0, (found.1, found.2))
      | inr none ↦ inr (λ row line. none (row, line.0, line.1))
    ]

-- ---- of some components

drop_front : (xs ys : List ℕ) → drop (length xs) (xs ++ ys) ≡ ys
drop_front [] ys = refl
drop_front (x ∷ xs) ys = drop_front xs ys

module _ (ss : List Spelling) (e : Environment) (cs : List Comp) where
  -- after n parts the bytes go on with some to their end
  abbrev Goes : ℕ → List ℕ → List (Option Value) → Type 0
  Goes n bytes before = (held : List (Option Value)) × (parts : List (ℕ × Value)) × HoldNext ss e cs n bytes before parts held

  -- with a component, or with a value of it
  abbrev GoesWith : ℕ → List ℕ → List (Option Value) → ℕ → Comp → Value → Type 0
  GoesWith n bytes before place c v =
      (rest : List ℕ) × (bytes ≡ comma_before n ++ (component_text ss c v ++ rest)) × Goes (n + 1) rest (set before place (Some v))

  abbrev GoesAt : ℕ → List ℕ → List (Option Value) → ℕ → Comp → Type 0
  GoesAt n bytes before place c = (slice_get before place ≡ Some None) × ((v : Value) × IsOfType e c.type v × GoesWith n bytes before place c v)

  -- ---- whether they do

  decided_with : (k n : ℕ) (bytes : List ℕ) (before : List (Option Value)) (place : ℕ) (c : Comp) (v : Value) → length bytes ≤ suc k
      → ((rest : List ℕ) → length rest ≤ k → Decided (Goes (n + 1) rest (set before place (Some v)))) → Decided (GoesWith n bytes before place c v)
  decided_with k n bytes before place c v l decided =
      let front = comma_before n ++ component_text ss c v in
      let last = drop (length front) bytes in
      elim (decided_lists cases_eq bytes (front ++ last)) [
        | inl is ↦ elim (decided last (shorter is)) [
          | inl goes ↦ inl (last, is ∙ append_assoc (comma_before n) (component_text ss c v) last, goes)
          | inr none ↦ inr (λ h. none (subst (λ x. Goes (n + 1) x (set before place (Some v))) (sym (behind h.0 h.1)) h.2))
        ]
        | inr other ↦ inr (λ h. other (subst (λ x. bytes ≡ front ++ x) (sym (behind h.0 h.1)) (whole h.0 h.1)))
      ]
    where
      whole : (rest : List ℕ) → bytes ≡ comma_before n ++ (component_text ss c v ++ rest) → bytes ≡ (comma_before n ++ component_text ss c v) ++ rest
      whole rest is = is ∙ sym (append_assoc (comma_before n) (component_text ss c v) rest)

      behind : (rest : List ℕ) → bytes ≡ comma_before n ++ (component_text ss c v ++ rest) → drop (length (comma_before n ++ component_text ss c v)) bytes ≡ rest
      behind rest is =
          ap (drop (length (comma_before n ++ component_text ss c v))) (is ∙ sym (append_assoc (comma_before n) (component_text ss c v) rest))
          ∙ drop_front (comma_before n ++ component_text ss c v) rest

      shorter : bytes ≡ (comma_before n ++ component_text ss c v) ++ drop (length (comma_before n ++ component_text ss c v)) bytes
          → length (drop (length (comma_before n ++ component_text ss c v)) bytes) ≤ k
      shorter is =
          let rest = drop (length (comma_before n ++ component_text ss c v)) bytes in
          let all = ap length (is ∙ append_assoc (comma_before n) (component_text ss c v) rest ∙ ap (λ x. comma_before n ++ x) (component_parts ss c v rest)) in
          let outer = length-append (comma_before n) (c.name ++ (codes " == " ++ (value_text ss v ++ rest))) in
          let inner = length-append c.name (codes " == " ++ (value_text ss v ++ rest)) in
          let end = length-append (value_text ss v) rest in
          omega (arith, all, outer, inner, end, l)

  decided_free : (x : Option (Option Value)) → Decided (x ≡ Some None)
  decided_free None = inr (λ q. cc)
  decided_free (Some None) = inl refl
  decided_free (Some (Some v)) = inr (λ q. cc)

  decided_both : {A B : Type 0} → Decided A → Decided B → Decided (A × B)
  decided_both (inl a) (inl b) = inl (a, b)
  decided_both (inr a) b = inr (λ h. a h.0)
  decided_both (inl a) (inr b) = inr (λ h. b h.1)

  -- a component that P says so of
  decided_place : (ds : List Comp) (P : ℕ → Comp → Type 0) → ((place : ℕ) (c : Comp) → Decided (P place c)) → Decided ((place : ℕ) × (c : Comp) × (slice_get ds place ≡ Some c) × P place c)
  decided_place [] P decided = inr (λ h. none h.0 h.1 h.2)
    where
      none : (place : ℕ) (c : Comp) → slice_get [] place ≡ Some c → ⊥
      none zero c q = cc
      none (suc place) c q = cc
  decided_place (d ∷ ds) P decided = elim (decided zero d) [
    | inl here ↦ inl (zero, d, refl, here)
    | inr not ↦ elim (decided_place ds (λ place c. P (suc place) c) (λ place c. decided (suc place) c)) [
      | inl there ↦ inl (suc there.0, there.1, there.2, there.3)
      | inr none ↦ inr (λ h. neither not none h.0 h.1 h.2 h.3)
    ]
  ]
    where
      neither : (P zero d → ⊥) → ((place : ℕ) × (c : Comp) × (slice_get ds place ≡ Some c) × P (suc place) c → ⊥) → (place : ℕ) (c : Comp) → slice_get (d ∷ ds) place ≡ Some c → P place c → ⊥
      neither not none zero c q p = not (subst (P zero) (sym (same_Some d c q)) p)
      neither not none (suc place) c q p = none (place, c, q, p)

  goes : (n : ℕ) (bytes : List ℕ) (before : List (Option Value)) → (place : ℕ) × (c : Comp) × (slice_get cs place ≡ Some c) × GoesAt n bytes before place c → Goes n bytes before
  goes n bytes before (place, c, there, (free, (v, of_type, (rest, stands, (held, parts, h))))) =
      (held, (place, v) ∷ parts, (rest, record { comp = c; there = there; free = free; of_type = of_type; stands = stands }, h))

  goes_at : (n b : ℕ) (bytes : List ℕ) (before held : List (Option Value)) (parts : List (ℕ × Value)) → HoldNext ss e cs n (b ∷ bytes) before parts held
      → (place : ℕ) × (c : Comp) × (slice_get cs place ≡ Some c) × GoesAt n (b ∷ bytes) before place c
  goes_at n b bytes before held [] h = absurd (cc)
  goes_at n b bytes before held (p ∷ parts) (rest, part, h) = (p.0, part.comp, part.there, (part.free, (p.1, part.of_type, (rest, part.stands, (held, parts, h)))))

  decided_goes : (k n : ℕ) (bytes : List ℕ) (before : List (Option Value)) → length bytes ≤ k → Decided (Goes n bytes before)
  decided_goes k n [] before l = inl (before, [], (refl, refl))
  decided_goes zero n (b ∷ bytes) before l = absurd (omega (arith, l))
  decided_goes (suc k) n (b ∷ bytes) before l =
      elim (decided_place cs (GoesAt n (b ∷ bytes) before) (λ place c. decided_both (decided_free (slice_get before place))
      (decided_some (GoesWith n (b ∷ bytes) before place c) (values_listed e c.type) (λ v. decided_with k n (b ∷ bytes) before place c v l
      (λ rest m. decided_goes k (n + 1) rest (set before place (Some v)) m))))) [
        | inl there ↦ inl (goes n (b ∷ bytes) before there)
        | inr none ↦ inr (λ h. none (goes_at n b bytes before h.0 h.1 h.2))
      ]

pub every_held_line_is_judged : EveryHeldLineIsJudged
every_held_line_is_judged e comps None = inl ([], refl)
every_held_line_is_judged e comps (Some text) = elim (decided_goes (spellings e.globals) e comps (length text) 0 text (nothing_of comps) (omega arith)) [
  | inl h ↦ inl (h.0, (h.1, h.2))
  | inr none ↦ inr (λ held line. none (held, line.0, line.1))
]
