-- The order of rows, value by value, over any totally ordered values.
use Rattle.zf_walk.proofs.Prelude.{◌++◌, ◌<◌, ◌∙◌, ◌∷◌, ◌≡◌, ◌≤◌, ◌⊎◌, [], ap, arith, Bool, drop, false, get_or, inl, inr, length, List, refl, sym, take, true, ℕ, false≢true, tied_itself, get_or_default, IsTotalOrder, slice_cmp, ordering_reverse, ordering_then, AllPairs, Contains, Ordering, Equal, Greater, Less, first_of, reaches, under, TiesAreEqual}

-- x stands at place i
pub record IsNth {V : Type 0} (range : List V) (i : ℕ) (x : V) : Type 0 where
  pub within : i < length range
  pub is : get_or range i x ≡ x

pub nth : {V : Type 0} (range : List V) (x : V) → Contains range x → (k : ℕ) × IsNth range k x
nth range x (k, h, e) = (k, record { within = h; is = e })

-- at any total order
module _ {V : Type 0} (cmp : V → V → Ordering) (o : IsTotalOrder cmp) where
  abbrev pub IsRange : List V → Type 0
  IsRange range = AllPairs (λ v w. cmp v w ≡ Less) range

  pub greater-from : (x y : V) → cmp x y ≡ Less → cmp y x ≡ Greater
  greater-from x y e = o.antisymm y x ∙ ap ordering_reverse e

  pub less-at : (range : List V) (i k : ℕ) (x v : V) → IsRange range → IsNth range i x → IsNth range k v → i < k → cmp x v ≡ Less
  less-at range i k x v r n m l =
      let p : cmp (get_or range i x) (get_or range k x) ≡ Less = r i k x l m.within in
      let e : get_or range i x ≡ x = n.is in
      let f : get_or range k x ≡ v = get_or_default range k x v m.within ∙ m.is in cc

  pub tied-at : (range : List V) (i k : ℕ) (x v : V) → IsNth range i x → IsNth range k v → i ≡ k → cmp x v ≡ Equal
  tied-at range i k x v n m l =
      let e : get_or range i x ≡ x = n.is in
      let f : get_or range k v ≡ v = m.is in
      let g : get_or range i x ≡ get_or range i v = get_or_default range i x v n.within in
      let same : x ≡ v = cc in
      let t : cmp v v ≡ Equal = tied_itself o v in cc

  pub greater-at : (range : List V) (i k : ℕ) (x v : V) → IsRange range → IsNth range i x → IsNth range k v → k < i → cmp x v ≡ Greater
  greater-at range i k x v r n m l = greater-from v x (less-at range k i v x r m n l)

  -- rows and tests under a path

  pub reaches-push : (here : Bool) (path : List V) (x : V) (row : List V) → reaches cmp here (path ++ x ∷ []) row ≡ under cmp path (reaches cmp here (x ∷ [])) row
  reaches-push here [] x row = refl
  reaches-push here (y ∷ path) x [] = refl
  reaches-push here (y ∷ path) x (v ∷ row) = ap (first_of (cmp y v)) (reaches-push here path x row)

  pub reaches-under : (here : Bool) (path : List V) (row : List V) → reaches cmp here path row ≡ under cmp path (λ _. here) row
  reaches-under here [] row = refl
  reaches-under here (y ∷ path) [] = refl
  reaches-under here (y ∷ path) (v ∷ row) = ap (first_of (cmp y v)) (reaches-under here path row)

  pub under-push : (path : List V) (test : List V → Bool) (x : V) (row : List V) → under cmp (path ++ x ∷ []) test row ≡ under cmp path (under cmp (x ∷ []) test) row
  under-push [] test x row = refl
  under-push (y ∷ path) test x [] = refl
  under-push (y ∷ path) test x (v ∷ row) = ap (first_of (cmp y v)) (under-push path test x row)

  pub under-at : (path : List V) (f : List V → Bool) (tail : List V) → under cmp path f (path ++ tail) ≡ f tail
  under-at [] f tail = refl
  under-at (x ∷ path) f tail = let e : cmp x x ≡ Equal = tied_itself o x in rw e (under-at path f tail)

  -- the order on whole rows, and on rows cut to one length

  pub reaches-cmp : (here : Bool) (a b : List V) → length a ≡ length b → reaches cmp here a b ≡ first_of (slice_cmp cmp a b) here
  reaches-cmp here [] [] l = refl
  reaches-cmp here [] (v ∷ b) l = absurd (omega arith)
  reaches-cmp here (x ∷ a) [] l = absurd (omega arith)
  reaches-cmp here (x ∷ a) (v ∷ b) l = go (cmp x v) (reaches-cmp here a b (omega arith)) where
    go : (r : Ordering) → reaches cmp here a b ≡ first_of (slice_cmp cmp a b) here → first_of r (reaches cmp here a b) ≡ first_of (ordering_then r (slice_cmp cmp a b)) here
    go Less ih = refl
    go Equal ih = ih
    go Greater ih = refl

  -- a path looks at as many values as it has
  pub reaches-take : (here : Bool) (path row : List V) → reaches cmp here path (take (length path) row) ≡ reaches cmp here path row
  reaches-take here [] row = refl
  reaches-take here (x ∷ path) [] = refl
  reaches-take here (x ∷ path) (v ∷ row) = ap (first_of (cmp x v)) (reaches-take here path row)

  -- a shorter row is not past a whole one that begins with it
  pub reaches-front : (whole row : List V) → length row ≤ length whole → reaches cmp false (take (length row) whole) row ≡ reaches cmp false whole row
  reaches-front [] [] l = refl
  reaches-front [] (v ∷ row) l = absurd (omega arith)
  reaches-front (x ∷ whole) [] l = refl
  reaches-front (x ∷ whole) (v ∷ row) l = ap (first_of (cmp x v)) (reaches-front whole row (omega arith))

  -- where values that tie are one
  module _ (ties : TiesAreEqual cmp) where
    -- a row that only `here` tells apart begins with the path
    pub begins : (path row : List V) → reaches cmp true path row ≡ true → (reaches cmp false path row ≡ true) ⊎ (path ++ drop (length path) row ≡ row)
    begins [] row h = inr refl
    begins (x ∷ path) [] h = absurd (false≢true h)
    begins (x ∷ path) (v ∷ row) h = go (cmp x v) refl h (begins path row) where
      go : (q : Ordering) → cmp x v ≡ q → first_of q (reaches cmp true path row) ≡ true
          → (reaches cmp true path row ≡ true → (reaches cmp false path row ≡ true) ⊎ (path ++ drop (length path) row ≡ row))
          → (first_of q (reaches cmp false path row) ≡ true) ⊎ (x ∷ (path ++ drop (length path) row) ≡ v ∷ row)
      go Less e k ih = inl refl
      go Equal e k ih = elim (ih k) [ inl past ↦ inl past | inr same ↦ inr (let q : x ≡ v = ties x v e in cc) ]
      go Greater e k ih = inl k

    -- a row that two tests under a path tell apart begins with the path
    pub under-differs : (path : List V) (f g : List V → Bool) (row : List V) → under cmp path f row ≡ true → under cmp path g row ≡ false
        → (tail : List V) × (path ++ tail ≡ row) × (f tail ≡ true) × (g tail ≡ false)
    under-differs [] f g row a b = (row, refl, a, b)
    under-differs (x ∷ path) f g [] a b = absurd (false≢true a)
    under-differs (x ∷ path) f g (v ∷ row) a b = go (cmp x v) refl a b (under-differs path f g row) where
      go : (q : Ordering) → cmp x v ≡ q → first_of q (under cmp path f row) ≡ true → first_of q (under cmp path g row) ≡ false
          → (under cmp path f row ≡ true → under cmp path g row ≡ false → (tail : List V) × (path ++ tail ≡ row) × (f tail ≡ true) × (g tail ≡ false))
          → (tail : List V) × (x ∷ (path ++ tail) ≡ v ∷ row) × (f tail ≡ true) × (g tail ≡ false)
      go Less e k l ih = absurd (false≢true (sym l))
      go Equal e k l ih = let d = ih k l in let q : x ≡ v = ties x v e in let p : path ++ d.0 ≡ row = d.1 in (d.0, cc, d.2, d.3)
      go Greater e k l ih = absurd (false≢true k)

    pub slice-ties : (a b : List V) → slice_cmp cmp a b ≡ Equal → a ≡ b
    slice-ties [] [] h = refl
    slice-ties [] (v ∷ b) h = cc
    slice-ties (x ∷ a) [] h = cc
    slice-ties (x ∷ a) (v ∷ b) h = go (cmp x v) refl h (slice-ties a b) where
      go : (q : Ordering) → cmp x v ≡ q → ordering_then q (slice_cmp cmp a b) ≡ Equal → (slice_cmp cmp a b ≡ Equal → a ≡ b) → x ∷ a ≡ v ∷ b
      go Less e k ih = cc
      go Equal e k ih = let q : x ≡ v = ties x v e in let p : a ≡ b = ih k in cc
      go Greater e k ih = cc
