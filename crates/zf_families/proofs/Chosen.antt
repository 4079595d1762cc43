-- Which rows are listed: those that a law allows which goes by the first layer.
use Rattle.zf_families.proofs.Prelude.{◌↔◌, ◌∷◌, ◌≡◌, ◌⊎◌, [], Bool, inl, inr, List, map, subst, true, ⊎_elim, filter, IsMember, Value, extended, extensions, some, whole}
use Rattle.zf_families.proofs.Lists.{In, in_left, in_right, in_either, in_map, in_from_map, in_filter, in_from_filter, in_flat_map, in_from_flat_map}
use Rattle.zf_families.proofs.Told.{member_in, in_member}

-- an item of the layer, and after it a row that it fits, of which P holds
abbrev pub Takes : (Value → List Value → Bool) → List Value → (List Value → Type 0) → List Value → Type 0
Takes f layer P r = (p : Value) × (s : List Value) × (p ∷ s ≡ r) × IsMember p layer × P s × (f p s ≡ true)

takes_weaker : (f : Value → List Value → Bool) (layer : List Value) (P Q : List Value → Type 0) (r : List Value) → ((s : List Value) → P s → Q s) → Takes f layer P r → Takes f layer Q r
takes_weaker f layer P Q r g t = (t.0, t.1, t.2, t.3, g t.1 t.4, t.5)

in_extensions : (f : Value → List Value → Bool) (layer : List Value) (rows : List (List Value)) (r : List Value) → Takes f layer (λ s. In s rows) r → In r (extensions f layer rows)
in_extensions f layer rows r t =
    subst (λ u. In u (extensions f layer rows)) t.2
    (in_flat_map (extended f rows) layer t.0 (t.0 ∷ t.1) (member_in t.0 layer t.3)
    (in_map (λ s. t.0 ∷ s) (filter (f t.0) rows) t.1 (in_filter (f t.0) rows t.1 t.4 t.5)))

in_from_extensions : (f : Value → List Value → Bool) (layer : List Value) (rows : List (List Value)) (r : List Value) → In r (extensions f layer rows) → Takes f layer (λ s. In s rows) r
in_from_extensions f layer rows r m =
    let q = in_from_flat_map (extended f rows) layer r m in
    let s = in_from_map (λ s. q.0 ∷ s) (filter (f q.0) rows) r q.2 in
    let h = in_from_filter (f q.0) rows s.0 s.2 in
    (q.0, s.0, s.1, in_member q.0 layer q.1, h.0, h.1)

module _ (f : Value → List Value → Bool) (layer : Value → List Value) (Good : List Value → Type 0) (Q : List Value → List Value → Type 0)
    (rest : (x : Value) (xs : List Value) → Good (x ∷ xs) → Good xs)
    (none : (r : List Value) → Q [] r ↔ ([] ≡ r)) where
  pub in_whole : ((x : Value) (xs r : List Value) → Good (x ∷ xs) → Q (x ∷ xs) r ↔ Takes f (layer x) (Q xs) r)
      → (a r : List Value) → Good a → In r (whole f (map layer a)) ↔ Q a r
  in_whole step [] r g = (λ m. (none r).1 (⊎_elim (λ e. e) (λ n. absurd n) m), λ q. inl ((none r).0 q))
  in_whole step (x ∷ xs) r g =
      let h = in_whole step xs in (
        λ m. (step x xs r g).1 (takes_weaker f (layer x) (λ s. In s (whole f (map layer xs))) (Q xs) r (λ s. (h s (rest x xs g)).0) (in_from_extensions f (layer x) (whole f (map layer xs)) r m)),
        λ q. in_extensions f (layer x) (whole f (map layer xs)) r (takes_weaker f (layer x) (Q xs) (λ s. In s (whole f (map layer xs))) r (λ s. (h s (rest x xs g)).1) ((step x xs r g).0 q)),
      )

  pub in_some : ((x : Value) (xs r : List Value) → Good (x ∷ xs) → Q (x ∷ xs) r ↔ (Takes f (layer x) (Q xs) r ⊎ Q xs r))
      → (a r : List Value) → Good a → In r ([] ∷ some f (map layer a)) ↔ Q a r
  in_some step [] r g = (λ m. (none r).1 (⊎_elim (λ e. e) (λ n. absurd n) m), λ q. inl ((none r).0 q))
  in_some step (x ∷ xs) r g =
      let h = in_some step xs in
      let rows = [] ∷ some f (map layer xs) in
      let from : In r rows → Q (x ∷ xs) r = λ m. (step x xs r g).1 (inr ((h r (rest x xs g)).0 m)) in (
        λ m. ⊎_elim
            (λ e. from (inl e))
            (λ n. ⊎_elim
            (λ l. (step x xs r g).1 (inl (takes_weaker f (layer x) (λ s. In s rows) (Q xs) r (λ s. (h s (rest x xs g)).0) (in_from_extensions f (layer x) rows r l))))
            (λ k. from (inr k))
            (in_either (extensions f (layer x) rows) (some f (map layer xs)) r n))
            m,
        λ q. ⊎_elim
            (λ t. inr (in_left (extensions f (layer x) rows) (some f (map layer xs)) r
            (in_extensions f (layer x) rows r (takes_weaker f (layer x) (Q xs) (λ s. In s rows) r (λ s. (h s (rest x xs g)).1) t))))
            (λ k. ⊎_elim (λ e. inl e) (λ n. inr (in_right (extensions f (layer x) rows) (some f (map layer xs)) r n)) ((h r (rest x xs g)).1 k))
            ((step x xs r g).0 q),
      )
