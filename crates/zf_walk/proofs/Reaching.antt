-- What the order value by value says in the words of the definitions.
use Rattle.zf_walk.proofs.Prelude.{◌++◌, ◌+◌, ◌<◌, ◌∙◌, ◌∷◌, ◌≡◌, ◌≤◌, [], ap, arith, Bool, drop, false, get_or, inl, inr, length, length-append, List, ltb, None, Option, refl, Some, subst, sym, take, true, ℕ, cases_eq, false≢true, le-ltb, lt-ltb, tied_itself, append-nil, drop_more, length-take-le, nil_from_length, take-take, take_all, get_or_from_slice_get, slice_get_within, IsTotalOrder, lists_total, slice_cmp, ◌≢◌, slice_get, Ordering, Equal, Greater, Less, first_of, is_reached, reaches, IsAhead, HasLength, IsLater, TiesAreEqual, IsReached, IsUpTo}
use Rattle.zf_walk.proofs.Order.{reaches-cmp, reaches-take, reaches-front, slice-ties}

less-of : (q : Ordering) → first_of q false ≡ true → q ≡ Less
less-of Less h = refl
less-of Equal h = absurd (false≢true h)
less-of Greater h = absurd (false≢true h)

not_less-of : (q : Ordering) → first_of q false ≡ false → q ≢ Less
not_less-of Less h e = false≢true (sym h)
not_less-of Equal h e = cc
not_less-of Greater h e = cc

of-not_less : (q : Ordering) → q ≢ Less → first_of q false ≡ false
of-not_less Less h = absurd (h refl)
of-not_less Equal h = refl
of-not_less Greater h = refl

not_greater-of : (q : Ordering) (here : Bool) → first_of q here ≡ true → q ≢ Greater
not_greater-of Less here h e = cc
not_greater-of Equal here h e = cc
not_greater-of Greater here h e = false≢true h

of-not_greater : (q : Ordering) → q ≢ Greater → first_of q true ≡ true
of-not_greater Less h = refl
of-not_greater Equal h = refl
of-not_greater Greater h = absurd (h refl)

module _ {V : Type 0} (cmp : V → V → Ordering) (o : IsTotalOrder cmp) where
  -- one value of both
  pub reaches-drop : (here : Bool) (named row : List V) (i : ℕ) (x v : V) (q : Ordering) → i < length named → x ≡ get_or named i x → slice_get row i ≡ Some v → q ≡ cmp x v
      → first_of q (reaches cmp here (drop (i + 1) named) (drop (i + 1) row)) ≡ reaches cmp here (drop i named) (drop i row)
  reaches-drop here named row i x v q l e f is =
      let n : drop i named ≡ x ∷ drop (i + 1) named = drop_more named i x l ∙ ap (λ y. y ∷ drop (i + 1) named) (sym e) in
      let r : drop i row ≡ v ∷ drop (i + 1) row = drop_more row i v (slice_get_within row i v f) ∙ ap (λ y. y ∷ drop (i + 1) row) (get_or_from_slice_get row i v v f) in
      ap (λ p. first_of p (reaches cmp here (drop (i + 1) named) (drop (i + 1) row))) is
      ∙ sym (ap (λ ys. reaches cmp here ys (drop i row)) n ∙ ap (λ ys. reaches cmp here (x ∷ drop (i + 1) named) ys) r)

  -- a front of the named row
  front-told : (named row : List V) (here : Bool) → length row ≤ length named → reaches cmp here (take (length row) named) row ≡ first_of (slice_cmp cmp (take (length row) named) row) here
  front-told named row here l = reaches-cmp cmp o here (take (length row) named) row (length-take-le (length row) named l)

  pub IsReached-from : (after : Option (List V)) (n : ℕ) (row : List V) → HasLength after n → length row ≤ n → is_reached cmp after n row ≡ true → IsReached cmp after n row
  IsReached-from None n row l s h = tt
  IsReached-from (Some named) n row l s h =
      let told = front-told named row (ltb (length row) n) (omega arith) in (
        not_greater-of (slice_cmp cmp (take (length row) named) row) (ltb (length row) n) (sym told ∙ h),
        λ e. let whole : ltb (length row) n ≡ false = le-ltb (length row) n (omega arith) in
            let same : take (length row) named ≡ named = take_all (length row) named (omega arith) in
            subst (λ t. slice_cmp cmp t row ≡ Less) same
            (less-of (slice_cmp cmp (take (length row) named) row) (ap (λ b. first_of (slice_cmp cmp (take (length row) named) row) b) (sym whole) ∙ sym told ∙ h)),
      )

  pub is_reached-from : (after : Option (List V)) (n : ℕ) (row : List V) → HasLength after n → length row ≤ n → IsReached cmp after n row → is_reached cmp after n row ≡ true
  is_reached-from None n row l s h = refl
  is_reached-from (Some named) n row l s h =
      let told = front-told named row (ltb (length row) n) (omega arith) in
      elim (cases_eq (length row) n) [
        | inl e ↦
            let same : take (length row) named ≡ named = take_all (length row) named (omega arith) in
            let less : slice_cmp cmp (take (length row) named) row ≡ Less = ap (λ t. slice_cmp cmp t row) same ∙ h.1 e in
            told ∙ ap (λ q. first_of q (ltb (length row) n)) less
        | inr ne ↦
            let part : ltb (length row) n ≡ true = lt-ltb (length row) n (omega arith) in
            told ∙ ap (λ b. first_of (slice_cmp cmp (take (length row) named) row) b) part ∙ of-not_greater (slice_cmp cmp (take (length row) named) row) h.0
      ]

  -- of whole rows, reached is later
  pub IsLater-from : (after : Option (List V)) (n : ℕ) (row : List V) → HasLength after n → length row ≡ n → is_reached cmp after n row ≡ true → IsLater cmp after row
  IsLater-from None n row l s h = tt
  IsLater-from (Some named) n row l s h = (IsReached-from (Some named) n row l (omega arith) h).1 s

  pub later-reached : (after : Option (List V)) (n : ℕ) (row : List V) → HasLength after n → length row ≡ n → IsLater cmp after row → is_reached cmp after n row ≡ true
  later-reached None n row l s h = refl
  later-reached (Some named) n row l s h =
      let same : take (length row) named ≡ named = take_all (length row) named (omega arith) in
      front-told named row (ltb (length row) n) (omega arith) ∙ ap (λ t. first_of (slice_cmp cmp t row) (ltb (length row) n)) same ∙ ap (λ q. first_of q (ltb (length row) n)) h

  pub IsUpTo-from : (whole row : List V) → length row ≤ length whole → reaches cmp false whole row ≡ false → IsUpTo cmp (Some whole) row
  IsUpTo-from whole row l h = not_less-of (slice_cmp cmp (take (length row) whole) row) (sym (front-told whole row false l) ∙ reaches-front cmp o whole row l ∙ h)

  pub IsUpTo-to : (whole row : List V) → length row ≤ length whole → IsUpTo cmp (Some whole) row → reaches cmp false whole row ≡ false
  IsUpTo-to whole row l h = sym (reaches-front cmp o whole row l) ∙ front-told whole row false l ∙ of-not_less (slice_cmp cmp (take (length row) whole) row) h

  -- a front that is not reached has no longer row that is
  shut : (here : Bool) (named road tail : List V) → reaches cmp true (take (length road) named) road ≡ false → length road ≤ length named → reaches cmp here named (road ++ tail) ≡ false
  shut here named [] tail h l = absurd (false≢true (sym h))
  shut here [] (v ∷ road) tail h l = absurd (omega arith)
  shut here (x ∷ named) (v ∷ road) tail h l = go (cmp x v) h (shut here named road tail) where
    go : (q : Ordering) → first_of q (reaches cmp true (take (length road) named) road) ≡ false
        → (reaches cmp true (take (length road) named) road ≡ false → length road ≤ length named → reaches cmp here named (road ++ tail) ≡ false)
        → first_of q (reaches cmp here named (road ++ tail)) ≡ false
    go Less k ih = absurd (false≢true (sym k))
    go Equal k ih = ih k (omega arith)
    go Greater k ih = refl

  pub unreached : (after : Option (List V)) (n : ℕ) (road tail : List V) → HasLength after n → length (road ++ tail) ≤ n → is_reached cmp after n road ≡ false
      → is_reached cmp after n (road ++ tail) ≡ false
  unreached None n road tail l s h = absurd (false≢true (sym h))
  unreached (Some named) n road tail l s h = elim (cases_eq (length road) n) [
    | inl e ↦ let none : tail ≡ [] = nil_from_length tail (omega (arith, length-append road tail)) in
        subst (λ t. is_reached cmp (Some named) n (road ++ t) ≡ false) (sym none) (subst (λ r. is_reached cmp (Some named) n r ≡ false) (sym (append-nil road)) h)
    | inr ne ↦
        let long = length-append road tail in
        let part : ltb (length road) n ≡ true = lt-ltb (length road) n (omega arith) in
        let short : reaches cmp true (take (length road) named) road ≡ false = ap (λ b. reaches cmp b (take (length road) named) road) (sym part) ∙ h in
        let cut : take (length road) (take (length (road ++ tail)) named) ≡ take (length road) named = take-take (length road) (length (road ++ tail)) named (omega arith) in
        shut (ltb (length (road ++ tail)) n) (take (length (road ++ tail)) named) road tail (ap (λ t. reaches cmp true t road) cut ∙ short)
        (omega (arith, length-take-le (length (road ++ tail)) named (omega arith)))
  ]

  module _ (ties : TiesAreEqual cmp) where
    path-told : (here : Bool) (path row : List V) → length path ≤ length row → reaches cmp here path row ≡ first_of (slice_cmp cmp path (take (length path) row)) here
    path-told here path row l = sym (reaches-take cmp o here path row) ∙ reaches-cmp cmp o here path (take (length path) row) (sym (length-take-le (length path) row l))

    pub IsAhead-from : (here : Bool) (path row : List V) → length path ≤ length row → reaches cmp here path row ≡ true → IsAhead cmp (record { path = path; here = here }) row
    IsAhead-from here path row l h = go (slice_cmp cmp path (take (length path) row)) refl (sym (path-told here path row l) ∙ h) where
      go : (q : Ordering) → slice_cmp cmp path (take (length path) row) ≡ q → first_of q here ≡ true → IsAhead cmp (record { path = path; here = here }) row
      go Less e k = inl e
      go Equal e k = inr (k, sym (slice-ties cmp o ties path (take (length path) row) e))
      go Greater e k = absurd (false≢true k)

    pub IsAhead-to : (here : Bool) (path row : List V) → length path ≤ length row → IsAhead cmp (record { path = path; here = here }) row → reaches cmp here path row ≡ true
    IsAhead-to here path row l (inl e) = path-told here path row l ∙ ap (λ q. first_of q here) e
    IsAhead-to here path row l (inr a) = path-told here path row l ∙ ap (λ t. first_of (slice_cmp cmp path t) here) a.1 ∙ ap (λ q. first_of q here) (tied_itself (lists_total o) path) ∙ a.0
