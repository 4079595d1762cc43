-- Fewer rows are ahead where a row that was ahead is passed with all that begin with its first values.
use Rattle.zf_parts.proofs.Prelude.{◌<◌, ◌∷◌, ◌≡◌, [], false, List, Option, refl, subst, sym, suc, true, zero, ℕ, Ordering, Equal, Greater, Less, Event, take, false≢true, tied_itself, Ahead, first_of, past, reaches, Takes, ahead_count, ahead_reached, fewer, in_rows, reached_on, rows_of}
use Rattle.std.specs.Cmp.{IsTotalOrder}
use Rattle.zf_walk.specs.Conjuncts.{Conjuncts}

module _ {V : Type 0} (cmp : V → V → Ordering) (o : IsTotalOrder cmp) where
  -- what is greater than the first values is greater
  front_reached : (n : ℕ) (row other : List V) → reaches cmp false (take n row) other ≡ true → reaches cmp false row other ≡ true
  front_reached zero row other h = absurd (false≢true h)
  front_reached (suc n) [] other h = absurd (false≢true h)
  front_reached (suc n) (x ∷ row) [] h = h
  front_reached (suc n) (x ∷ row) (v ∷ other) h = go (cmp x v) h (front_reached n row other) where
    go : (q : Ordering) → first_of q (reaches cmp false (take n row) other) ≡ true → (reaches cmp false (take n row) other ≡ true → reaches cmp false row other ≡ true)
        → first_of q (reaches cmp false row other) ≡ true
    go Less k ih = k
    go Equal k ih = ih k
    go Greater k ih = absurd (false≢true k)

  front_behind : (n : ℕ) (row : List V) → reaches cmp false (take n row) row ≡ false
  front_behind zero row = refl
  front_behind (suc n) [] = refl
  front_behind (suc n) (v ∷ row) = let e : cmp v v ≡ Equal = tied_itself o v in rw e (front_behind n row)

  pub fewer_past : (s : Conjuncts V) (ranges : List (List V)) (after : Option (List V)) (a b : Ahead V) (e : Event V) (n : ℕ) (c : Ahead V)
      → Takes cmp s ranges after a e b → c ≡ past (take n e.row) → ahead_count cmp ranges c < ahead_count cmp ranges a
  fewer_past s ranges after a b e n c t is =
      let first : reaches cmp a.here a.path e.row ≡ true = ahead_reached cmp o a.here a.path e.row t.ahead in
      subst (λ d. ahead_count cmp ranges d < ahead_count cmp ranges a) (sym is)
      (fewer (reaches cmp false (take n e.row)) (reaches cmp a.here a.path) (rows_of ranges) e.row (in_rows ranges e.row t.event.within)
      (front_behind n e.row) first (λ row m h. reached_on cmp o a.here a.path e.row row first (front_reached n e.row row h)))
