-- What is kept of parts, with one event more.
use Rattle.zf_parts.proofs.Prelude.{◌++◌, ◌∙◌, ◌∷◌, ◌≡◌, [], ap, Bool, cond, false, inl, inr, List, None, Option, refl, Some, subst, sym, true, ℕ, slice_cmp, match_ordering, Contains, Ordering, Equal, Greater, Less, Contains-cases, Contains-head, Contains-later, Contains-nil, Event, ComesAfter, IsLater, Out, True, value_order, Value, Part, values_at, false≢true, is_eq, is_some, AreKeptAs, Ascend, IsKeptAs, KeepParts}
use Rattle.std.specs.BTreeMap.{insert_entry, is_at}
use Rattle.std.specs.Map.{lookup}
use Rattle.zf_parts.proofs.Growing.{is_new, not_later, not_new}
use Rattle.zf_parts.proofs.Orders.{itself, same_row}
use Rattle.zf_parts.proofs.Putting.{HasNone, put}

abbrev pub Entry : Type 0
Entry = List Value × Option (List Value)

abbrev pub found : List Value → List Entry → Option (Option (List Value))
found values entries = lookup (is_at (slice_cmp value_order values)) entries

-- what an entry has is what its part has
pub has_values : (p : Part) (entry : Entry) → IsKeptAs p entry → entry.0 ≡ p.values
has_values p (vs, None) k = k.0
has_values p (vs, Some row) k = k.0

module _ (values : List Value) where
  pub has_key : (parts : List Part) (entries : List Entry) → AreKeptAs parts entries → is_some (found values entries) ≡ true → (p : Part) × Contains parts p × (p.values ≡ values)
  has_key [] [] h e = absurd (false≢true e)
  has_key [] (entry ∷ entries) h e = absurd h
  has_key (p ∷ parts) [] h e = absurd h
  has_key (p ∷ parts) (entry ∷ entries) h e = go (slice_cmp value_order values entry.0) refl e (has_key parts entries h.1) where
    later : ((q : Part) × Contains parts q × (q.values ≡ values)) → (q : Part) × Contains (p ∷ parts) q × (q.values ≡ values)
    later (q, m, same) = (q, Contains-later p parts q m, same)

    go : (o : Ordering) → slice_cmp value_order values entry.0 ≡ o → is_some (cond (is_eq o) (Some entry.1) (found values entries)) ≡ true
        → (is_some (found values entries) ≡ true → (q : Part) × Contains parts q × (q.values ≡ values)) → (q : Part) × Contains (p ∷ parts) q × (q.values ≡ values)
    go Less o k ih = later (ih k)
    go Equal o k ih = (p, Contains-head p parts, sym (has_values p entry h.0) ∙ sym (same_row values entry.0 o))
    go Greater o k ih = later (ih k)

  pub no_key : (parts : List Part) (entries : List Entry) → AreKeptAs parts entries → is_some (found values entries) ≡ false → HasNone values parts
  no_key [] entries h e p m same = Contains-nil p m
  no_key (q ∷ parts) [] h e p m same = absurd h
  no_key (q ∷ parts) (entry ∷ entries) h e p m same = go (slice_cmp value_order values entry.0) refl e (λ k n. no_key parts entries h.1 k p n same) where
    apart : (o : Ordering) → slice_cmp value_order values entry.0 ≡ o → (o ≡ Equal → ⊥) → (Contains parts p → ⊥) → ⊥
    apart o is ne ih = elim (Contains-cases q parts p m) [
      | inl first ↦ ne (sym is ∙ subst (λ vs. slice_cmp value_order values vs ≡ Equal) (sym (has_values q entry h.0 ∙ ap (λ (r : Part). r.values) first ∙ same)) (itself values))
      | inr n ↦ ih n
    ]

    go : (o : Ordering) → slice_cmp value_order values entry.0 ≡ o → is_some (cond (is_eq o) (Some entry.1) (found values entries)) ≡ false
        → (is_some (found values entries) ≡ false → Contains parts p → ⊥) → ⊥
    go Less is k ih = apart Less is (λ f. cc) (ih k)
    go Equal is k ih = absurd (false≢true (sym k))
    go Greater is k ih = apart Greater is (λ f. cc) (ih k)

-- an entry at its place
pub put_kept : (p : Part) (out : Option (List Value)) → IsKeptAs p (p.values, out) → (parts : List Part) (entries : List Entry) → HasNone p.values parts → AreKeptAs parts entries
    → AreKeptAs (put p parts) (insert_entry (slice_cmp value_order) entries p.values out)
put_kept p out k [] [] none h = (k, tt)
put_kept p out k [] (entry ∷ entries) none h = absurd h
put_kept p out k (q ∷ parts) [] none h = absurd h
put_kept p out k (q ∷ parts) (entry ∷ entries) none h =
    subst (λ vs. AreKeptAs (match_ordering (slice_cmp value_order p.values vs) (p ∷ q ∷ parts) (p ∷ parts) (q ∷ put p parts))
    (match_ordering (slice_cmp value_order p.values entry.0) ((p.values, out) ∷ entry ∷ entries) ((entry.0, out) ∷ entries) (entry ∷ insert_entry (slice_cmp value_order) entries p.values out)))
    (has_values q entry h.0)
    (go (slice_cmp value_order p.values entry.0) refl (put_kept p out k parts entries (λ r m. none r (Contains-later q parts r m)) h.1))
  where
    go : (o : Ordering) → slice_cmp value_order p.values entry.0 ≡ o → AreKeptAs (put p parts) (insert_entry (slice_cmp value_order) entries p.values out)
        → AreKeptAs (match_ordering o (p ∷ q ∷ parts) (p ∷ parts) (q ∷ put p parts))
        (match_ordering o ((p.values, out) ∷ entry ∷ entries) ((entry.0, out) ∷ entries) (entry ∷ insert_entry (slice_cmp value_order) entries p.values out))
    go Less is ih = (k, h)
    go Equal is ih = absurd (none q (Contains-head q parts) (sym (same_row p.values entry.0 is ∙ has_values q entry h.0)))
    go Greater is ih = (h.0, ih)

-- ---- one event more

-- the event that a step gave
abbrev pub event_of : List Value → Bool → Event Value
event_of row is_out = record { row = row; truth = cond is_out Out True }

module _ (places : List ℕ) (after : Option (List Value)) (row : List Value) (is_out : Bool) (entries : List Entry) where
  -- whatever events come before it, their parts and its own are kept then
  abbrev pub Adds : List Entry → Type 0
  Adds now = (events : List (Event Value)) → Ascend events → ((x : Event Value) → Contains events x → ComesAfter value_order x.row row) → KeepParts places after events entries
      → KeepParts places after (events ++ event_of row is_out ∷ []) now

  module _ (values : List Value) (is : values ≡ values_at places row) where
    pub adds_not_later : (IsLater value_order after values → ⊥) → Adds entries
    adds_not_later never events o last (parts, h, k) =
        (parts, not_later places after events (event_of row is_out) last parts h (subst (λ vs. IsLater value_order after vs → ⊥) is never), k)

    pub adds_known : is_some (found values entries) ≡ true → Adds entries
    adds_known there events o last (parts, h, k) =
        let (p, m, same) = has_key values parts entries k there in
        (parts, not_new places after events (event_of row is_out) last parts h p m (same ∙ is), k)

    pub adds_new : IsLater value_order after values → is_some (found values entries) ≡ false → (out : Option (List Value)) → out ≡ cond is_out (Some row) None
        → (now : List Entry) → now ≡ insert_entry (slice_cmp value_order) entries values out → Adds now
    adds_new later absent out of now inserted events o last (parts, h, k) =
        let none : HasNone (values_at places row) parts = subst (λ vs. HasNone vs parts) is (no_key values parts entries k absent) in (
          put part parts,
          is_new places after events (event_of row is_out) last parts h o (subst (IsLater value_order after) is later) none,
          subst (AreKeptAs (put part parts)) (sym (inserted ∙ ap (λ vs. insert_entry (slice_cmp value_order) entries vs out) is
              ∙ ap (insert_entry (slice_cmp value_order) entries (values_at places row)) of))
              (put_kept part (cond is_out (Some row) None) (as_kept is_out) parts entries none k),
        ) where
          part : Part
          part = record { values = values_at places row; first = event_of row is_out }

          as_kept : (b : Bool) → IsKeptAs (record { values = values_at places row; first = event_of row b }) (values_at places row, cond b (Some row) None)
          as_kept true = (refl, refl, refl)
          as_kept false = (refl, refl)
