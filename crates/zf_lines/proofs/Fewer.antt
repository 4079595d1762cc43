-- A search ends: with each event that is taken fewer rows are ahead.
use Rattle.zf_lines.proofs.Prelude.{if◌then◌else◌, ◌++◌, ◌<◌, ◌∙◌, ◌∷◌, ◌≡◌, ◌≤◌, [], ap, arith, Bool, false, inl, inr, length, List, map, Option, refl, subst, suc, sym, take, true, ℕ, false≢true, IsTotalOrder, slice_cmp, ordering_then, Contains, Ordering, Equal, Greater, Less, Contains-cases, Contains-head, Contains-later, Contains-left, Contains-nil, Contains-right, Conjuncts, Event, Ahead, IsAhead, Takes, IsRowOf, first_of, reaches}
use Rattle.std.proofs.lemmas.Cmp.{tied_itself, alike_right}

-- ---- how many pass a test

abbrev pub count : {X : Type 0} → (X → Bool) → List X → ℕ
count test [] = 0
count test (x ∷ xs) = if test x then suc (count test xs) else count test xs

-- what passes the one test passes the other
no_more : {X : Type 0} (f g : X → Bool) (xs : List X) → ((x : X) → Contains xs x → f x ≡ true → g x ≡ true) → count f xs ≤ count g xs
no_more f g [] h = omega arith
no_more {X} f g (x ∷ xs) h = go (f x) (g x) (h x (Contains-head x xs)) (no_more f g xs (λ y m. h y (Contains-later x xs y m))) where
  go : (a b : Bool) → (a ≡ true → b ≡ true) → count f xs ≤ count g xs → (if a then suc (count f xs) else count f xs) ≤ (if b then suc (count g xs) else count g xs)
  go true true k l = omega (arith, l)
  go true false k l = absurd (false≢true (k refl))
  go false true k l = omega (arith, l)
  go false false k l = l

-- and one passes the other alone
pub fewer : {X : Type 0} (f g : X → Bool) (xs : List X) (y : X) → Contains xs y → f y ≡ false → g y ≡ true → ((x : X) → Contains xs x → f x ≡ true → g x ≡ true) → count f xs < count g xs
fewer f g [] y m a b h = absurd (Contains-nil y m)
fewer {X} f g (x ∷ xs) y m a b h = elim (Contains-cases x xs y m) [
  | inl e ↦ first (f x) (g x) (ap f e ∙ a) (ap g e ∙ b) (no_more f g xs later)
  | inr n ↦ go (f x) (g x) (h x (Contains-head x xs)) (fewer f g xs y n a b later)
] where
  later : (z : X) → Contains xs z → f z ≡ true → g z ≡ true
  later z n = h z (Contains-later x xs z n)

  first : (p q : Bool) → p ≡ false → q ≡ true → count f xs ≤ count g xs → (if p then suc (count f xs) else count f xs) < (if q then suc (count g xs) else count g xs)
  first true q k l n = absurd (false≢true (sym k))
  first false true k l n = omega (arith, n)
  first false false k l n = absurd (false≢true l)

  go : (p q : Bool) → (p ≡ true → q ≡ true) → count f xs < count g xs → (if p then suc (count f xs) else count f xs) < (if q then suc (count g xs) else count g xs)
  go true true k l = omega (arith, l)
  go true false k l = absurd (false≢true (k refl))
  go false true k l = omega (arith, l)
  go false false k l = l

-- ---- all rows of some ranges

abbrev pub extended : {V : Type 0} → List V → List (List V) → List (List V)
extended [] rows = []
extended (v ∷ range) rows = map (λ row. v ∷ row) rows ++ extended range rows

abbrev pub rows_of : {V : Type 0} → List (List V) → List (List V)
rows_of [] = [] ∷ []
rows_of (range ∷ ranges) = extended range (rows_of ranges)

module _ {V : Type 0} where
  in_map : (v : V) (rows : List (List V)) (row : List V) → Contains rows row → Contains (map (λ r. v ∷ r) rows) (v ∷ row)
  in_map v [] row m = absurd (Contains-nil row m)
  in_map v (r ∷ rows) row m = elim (Contains-cases r rows row m) [
    | inl e ↦ subst (λ x. Contains ((v ∷ r) ∷ map (λ s. v ∷ s) rows) (v ∷ x)) e (Contains-head (v ∷ r) (map (λ s. v ∷ s) rows))
    | inr n ↦ Contains-later (v ∷ r) (map (λ s. v ∷ s) rows) (v ∷ row) (in_map v rows row n)
  ]

  in_extended : (range : List V) (rows : List (List V)) (v : V) (row : List V) → Contains range v → Contains rows row → Contains (extended range rows) (v ∷ row)
  in_extended [] rows v row m n = absurd (Contains-nil v m)
  in_extended (w ∷ range) rows v row m n = elim (Contains-cases w range v m) [
    | inl e ↦ Contains-left (map (λ r. w ∷ r) rows) (extended range rows) (v ∷ row) (subst (λ x. Contains (map (λ r. x ∷ r) rows) (v ∷ row)) (sym e) (in_map v rows row n))
    | inr k ↦ Contains-right (map (λ r. w ∷ r) rows) (extended range rows) (v ∷ row) (in_extended range rows v row k n)
  ]

  pub in_rows : (ranges : List (List V)) (row : List V) → IsRowOf ranges row → Contains (rows_of ranges) row
  in_rows [] [] m = Contains-head [] []
  in_rows [] (v ∷ row) m = absurd m
  in_rows (range ∷ ranges) [] m = absurd m
  in_rows (range ∷ ranges) (v ∷ row) m = in_extended range (rows_of ranges) v row m.0 (in_rows ranges row m.1)

-- ---- what is ahead

module _ {V : Type 0} (cmp : V → V → Ordering) (o : IsTotalOrder cmp) where
  -- what is ahead of where a walk stands is reached from there
  pub ahead_reached : (here : Bool) (path row : List V) → IsAhead cmp (record { path = path; here = here }) row → reaches cmp here path row ≡ true
  ahead_reached here [] row (inl e) = cc
  ahead_reached here [] row (inr a) = a.0
  ahead_reached here (x ∷ path) [] (inl e) = cc
  ahead_reached here (x ∷ path) [] (inr a) = let e : ◌≡◌ {A = List V} [] (x ∷ path) = a.1 in cc
  ahead_reached here (x ∷ path) (v ∷ row) (inl e) = go (cmp x v) e (λ k. ahead_reached here path row (inl k)) where
    go : (q : Ordering) → ordering_then q (slice_cmp cmp path (take (length path) row)) ≡ Less
        → (slice_cmp cmp path (take (length path) row) ≡ Less → reaches cmp here path row ≡ true) → first_of q (reaches cmp here path row) ≡ true
    go Less k ih = refl
    go Equal k ih = ih k
    go Greater k ih = cc
  ahead_reached here (x ∷ path) (v ∷ row) (inr a) =
      let whole : v ∷ take (length path) row ≡ x ∷ path = a.1 in
      let first : v ≡ x = cc in
      let rest : take (length path) row ≡ path = cc in
      let tied : cmp x v ≡ Equal = ap (cmp x) first ∙ tied_itself o x in
      rw tied (ahead_reached here path row (inr (a.0, rest)))

  -- what comes after a row that is reached is reached
  pub reached_on : (here : Bool) (path row later : List V) → reaches cmp here path row ≡ true → reaches cmp false row later ≡ true → reaches cmp here path later ≡ true
  reached_on here [] row later a b = a
  reached_on here (x ∷ path) [] later a b = absurd (false≢true a)
  reached_on here (x ∷ path) (v ∷ row) [] a b = absurd (false≢true b)
  reached_on here (x ∷ path) (v ∷ row) (w ∷ later) a b = go (cmp x v) (cmp v w) refl refl a b (reached_on here path row later) where
    go : (p q : Ordering) → cmp x v ≡ p → cmp v w ≡ q → first_of p (reaches cmp here path row) ≡ true → first_of q (reaches cmp false row later) ≡ true
        → (reaches cmp here path row ≡ true → reaches cmp false row later ≡ true → reaches cmp here path later ≡ true) → first_of (cmp x w) (reaches cmp here path later) ≡ true
    go Less Less e f k l ih = let g : cmp x w ≡ Less = o.trans x v w e f in rw g refl
    go Less Equal e f k l ih = let g : cmp x w ≡ Less = sym (alike_right o v w x f) ∙ e in rw g refl
    go Equal Less e f k l ih = let g : cmp x w ≡ Less = o.congr x v w e ∙ f in rw g refl
    go Equal Equal e f k l ih = let g : cmp x w ≡ Equal = o.congr x v w e ∙ f in rw g (ih k l)
    go Greater q e f k l ih = absurd (false≢true k)
    go Less Greater e f k l ih = absurd (false≢true l)
    go Equal Greater e f k l ih = absurd (false≢true l)

  -- no row comes after itself
  itself_behind : (row : List V) → reaches cmp false row row ≡ false
  itself_behind [] = refl
  itself_behind (v ∷ row) = let e : cmp v v ≡ Equal = tied_itself o v in rw e (itself_behind row)

-- how many rows are ahead
abbrev pub ahead_count : {V : Type 0} → (V → V → Ordering) → List (List V) → Ahead V → ℕ
ahead_count cmp ranges a = count (reaches cmp a.here a.path) (rows_of ranges)

pub one_fewer : {V : Type 0} (cmp : V → V → Ordering) → IsTotalOrder cmp → (s : Conjuncts V) (ranges : List (List V)) (after : Option (List V)) (a b : Ahead V) (e : Event V)
    → Takes cmp s ranges after a e b → ahead_count cmp ranges b < ahead_count cmp ranges a
one_fewer cmp o s ranges after a b e t =
    subst (λ c. ahead_count cmp ranges c < ahead_count cmp ranges a) (sym t.passed)
    (fewer (reaches cmp false e.row) (reaches cmp a.here a.path) (rows_of ranges) e.row (in_rows ranges e.row t.event.within)
    (itself_behind cmp o e.row) first (λ row m h. reached_on cmp o a.here a.path e.row row first h))
  where
    first : reaches cmp a.here a.path e.row ≡ true
    first = ahead_reached cmp o a.here a.path e.row t.ahead
