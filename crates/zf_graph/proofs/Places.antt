-- Items of lists by their places.
use Rattle.zf_graph.proofs.Prelude.{◌++◌, ◌<◌, ◌∷◌, ◌≡◌, ◌⊎◌, ◌∙◌, [], arith, ap, inl, inr, length, List, map, None, Option, refl, Some, subst, suc, sym, zero, ℕ, slice_get, slice_get_within, Contains, get_or_from_slice_get, slice_get-get_or}

module _ {X : Type 0} where
  -- what an option has
  or : X → Option X → X
  or d None = d
  or d (Some x) = x

  pub one_some : (x y : X) → Some x ≡ Some y → x ≡ y
  unfolding or
  one_some x y e = ap (or x) e

  is_some : Option X → Type 0
  is_some None = ⊥
  is_some (Some x) = Unit {0}

  pub none_some : (x : X) → None ≡ Some x → ⊥
  unfolding is_some
  none_some x e = subst is_some (sym e) tt

  -- two items at one place are one
  pub one_at : (xs : List X) (i : ℕ) (x y : X) → slice_get xs i ≡ Some x → slice_get xs i ≡ Some y → x ≡ y
  one_at xs i x y p q = one_some x y (sym p ∙ q)

  -- an item keeps its place where others come after
  pub at_left : (xs ys : List X) (i : ℕ) (x : X) → slice_get xs i ≡ Some x → slice_get (xs ++ ys) i ≡ Some x
  at_left [] ys i x p = absurd (none_some x p)
  at_left (z ∷ xs) ys zero x p = p
  at_left (z ∷ xs) ys (suc i) x p = at_left xs ys i x p

  -- the last item
  pub at_last : (xs : List X) (y : X) → slice_get (xs ++ y ∷ []) (length xs) ≡ Some y
  at_last [] y = refl
  at_last (z ∷ xs) y = at_last xs y

  -- an item with one after is one of the first, or the last
  pub at_push : (xs : List X) (y : X) (i : ℕ) (x : X) → slice_get (xs ++ y ∷ []) i ≡ Some x → (slice_get xs i ≡ Some x) ⊎ ((i ≡ length xs) × (x ≡ y))
  at_push [] y zero x p = inr (refl, sym (one_some y x p))
  at_push [] y (suc i) x p = absurd (none_some x p)
  at_push (z ∷ xs) y zero x p = inl p
  at_push (z ∷ xs) y (suc i) x p = elim (at_push xs y i x p) [ inl q ↦ inl q | inr q ↦ inr (ap suc q.0, q.1) ]

  -- an item has a place, and what has a place is an item
  pub place_in : (xs : List X) (x : X) → Contains xs x → (i : ℕ) × (slice_get xs i ≡ Some x)
  place_in xs x h = (h.0, slice_get-get_or xs h.0 x h.1 ∙ ap Some h.2)

  pub in_place : (xs : List X) (i : ℕ) (x : X) → slice_get xs i ≡ Some x → Contains xs x
  in_place xs i x p = (i, slice_get_within xs i x p, get_or_from_slice_get xs i x x p)

  -- there is an item at each place
  pub some_at : (xs : List X) (i : ℕ) → i < length xs → (x : X) × (slice_get xs i ≡ Some x)
  some_at [] i h = absurd (omega (arith, h))
  some_at (z ∷ xs) zero h = (z, refl)
  some_at (z ∷ xs) (suc i) h = some_at xs i (omega (arith, h))

-- an item of a list of images is that of an item
pub map_at : {X Y : Type 0} (f : X → Y) (xs : List X) (i : ℕ) (y : Y) → slice_get (map f xs) i ≡ Some y → (x : X) × (slice_get xs i ≡ Some x) × (f x ≡ y)
map_at f [] i y p = absurd (none_some y p)
map_at f (x ∷ xs) zero y p = (x, refl, one_some (f x) y p)
map_at f (x ∷ xs) (suc i) y p = map_at f xs i y p

-- an item's image is that of the item
pub at_map : {X Y : Type 0} (f : X → Y) (xs : List X) (i : ℕ) (x : X) → slice_get xs i ≡ Some x → slice_get (map f xs) i ≡ Some (f x)
at_map f [] i x p = absurd (none_some x p)
at_map f (z ∷ xs) zero x p = ap (λ y. Some (f y)) (one_some z x p)
at_map f (z ∷ xs) (suc i) x p = at_map f xs i x p
