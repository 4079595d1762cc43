-- On what it is to be blamed that no event begins with the values of a range.
use Rattle.zf_plan.proofs.Prelude.{◌++◌, ◌+◌, ◌-◌, ◌<◌, ◌∙◌, ◌∷◌, ◌≡◌, ◌≤◌, ◌⊎◌, [], ap, append_assoc, arith, Bool, Conjuncts, drop, drop_more, false, False, get_or, get_or-append_seam, get_or-take, get_or_append_left, get_or_from_slice_get, HaveLeavesWithin, inl, inr, IsChosen, IsNth, IsRowOf, IsRowOf-length, leaf, length, length-append, length-picked, List, max, nth, Option, picked, picked-push, refl, slice_get-nth, slice_get_within, subst, suc, sym, take, Tree, tree_at, true, zero, ℕ, cases_eq, cases_lt, AreDueWithin, AreWithin, AreWithin-push, IsNextChoice, bit_or, take-append-le, bit_at-lt, bit_at_or, FollowUsed, HasBit, AreAlike, Covers, HasBits, IsBlamed, IsFailed, IsRefuted, StaysChoice, touches, Mark}
use Rattle.std.specs.Int.{bit_at}
use Rattle.zf_plan.proofs.Marking.{each-leaf, same-get, tree-follows}
use Rattle.zf_plan.proofs.Moving.{tail-row}

-- ---- bits

max-left : (a b : ℕ) → a ≡ 1 → b < 2 → max a b ≡ 1
max-left a b e h = omega arith

max-right : (a b : ℕ) → a < 2 → b ≡ 1 → max a b ≡ 1
max-right a b h e = omega arith

pub or-left : (a b i : ℕ) → HasBit a i → HasBit (bit_or a b) i
or-left a b i h = bit_at_or a b i ∙ max-left (bit_at a i) (bit_at b i) h (bit_at-lt b i)

pub or-right : (a b i : ℕ) → HasBit b i → HasBit (bit_or a b) i
or-right a b i h = bit_at_or a b i ∙ max-right (bit_at a i) (bit_at b i) (bit_at-lt a i) h

bits-more : (uses : ℕ → ℕ → Bool) (a b k : ℕ) → ((i : ℕ) → HasBit a i → HasBit b i) → (tree : Tree) → HasBits uses a k tree → HasBits uses b k tree
bits-more uses a b k f = each-leaf (λ c. (i : ℕ) → i < k → uses c i ≡ true → HasBit a i) (λ c. (i : ℕ) → i < k → uses c i ≡ true → HasBit b i) (λ c h i low is. f i (h i low is))

pub bits-left : (uses : ℕ → ℕ → Bool) (a b k : ℕ) (tree : Tree) → HasBits uses a k tree → HasBits uses (bit_or a b) k tree
bits-left uses a b k = bits-more uses a (bit_or a b) k (or-left a b)

pub bits-right : (uses : ℕ → ℕ → Bool) (a b k : ℕ) (tree : Tree) → HasBits uses b k tree → HasBits uses (bit_or a b) k tree
bits-right uses a b k = bits-more uses b (bit_or a b) k (or-right a b)

-- one conjunct more, or one number of values more
module _ {V : Type 0} (l : Conjuncts V) (uses : ℕ → ℕ → Bool) (trees : List Tree) where
  pub covers-touched : (k n old more : ℕ) → Covers l uses trees k n old → HasBits uses more k (tree_at trees n) → Covers l uses trees k (n + 1) (bit_or old more)
  covers-touched k n old more h here j m at = elim (cases_eq j n) [
    | inl e ↦ subst (λ i. HasBits uses (bit_or old more) k (tree_at trees i)) (sym e) (bits-right uses old more k (tree_at trees n) here)
    | inr ne ↦ bits-left uses old more k (tree_at trees j) (h j (omega (arith, m, ne)) at)
  ]

  pub covers-skip : (k n word : ℕ) → Covers l uses trees k n word → touches l k (tree_at trees n) ≡ false → Covers l uses trees k (n + 1) word
  covers-skip k n word h not j m at = elim (cases_eq j n) [
    | inl e ↦ absurd (let z : true ≡ false = sym at ∙ ap (λ i. touches l k (tree_at trees i)) e ∙ not in cc)
    | inr ne ↦ h j (omega (arith, m, ne)) at
  ]

-- ---- the places of a row that begins with these values

module _ {V : Type 0} (ranges : List (List V)) (row : List V) (m : IsRowOf ranges row) where
  one-more : (n : ℕ) (others : List ℕ) (tail : List V) → AreWithin ranges others → length others ≡ n → n < length ranges → picked ranges others ++ tail ≡ row
      → (i : ℕ) × (v : V) × (rest : List V) × IsNth (get_or ranges n []) i v × (tail ≡ v ∷ rest)
  one-more n others tail w long near is = go tail (subst (λ rs. IsRowOf rs tail)
      (ap (λ k. drop k ranges) (length-picked ranges others w ∙ long) ∙ drop_more ranges n [] near)
      (tail-row (picked ranges others) tail ranges (subst (IsRowOf ranges) (sym is) m))) where
        go : (tail : List V) → IsRowOf (get_or ranges n [] ∷ drop (n + 1) ranges) tail → (i : ℕ) × (v : V) × (rest : List V) × IsNth (get_or ranges n []) i v × (tail ≡ v ∷ rest)
        go [] t = absurd t
        go (v ∷ rest) t = let h = nth (get_or ranges n []) v t.0 in (h.0, v, rest, h.1, refl)

  record Reached (first : List ℕ) (d n : ℕ) : Type 0 where
    pub others : List ℕ
    pub tail : List V
    pub within : AreWithin ranges others
    pub long : length others ≡ n
    pub same : take d others ≡ first
    pub front : picked ranges others ++ tail ≡ row

  module _ (first : List ℕ) (d : ℕ) (w : AreWithin ranges first) (long : length first ≡ d) (tail : List V) (is : picked ranges first ++ tail ≡ row) where
    reach : (k : ℕ) → d + k ≤ length ranges → Reached first d (d + k)
    reach zero h = record { others = first; tail = tail; within = w; long = omega (arith, long); same = ap (λ n. take n first) (sym long) ∙ take_whole first; front = is } where
      take_whole : (xs : List ℕ) → take (length xs) xs ≡ xs
      take_whole [] = refl
      take_whole (x ∷ xs) = ap (λ ys. x ∷ ys) (take_whole xs)
    reach (suc k) h =
        let before = reach k (omega arith) in
        let more = one-more (d + k) before.others before.tail before.within before.long (omega arith) before.front in
        let n = subst (λ j. IsNth (get_or ranges j []) more.0 more.1) (sym before.long) more.3 in
        let near : length before.others < length ranges = let a = before.long in omega arith in
        record {
          others = before.others ++ more.0 ∷ [];
          tail = more.2;
          within = AreWithin-push ranges before.others more.0 more.1 before.within near n;
          long = let a = before.long in omega (arith, length-append before.others (more.0 ∷ []));
          same = take-append-le d before.others (more.0 ∷ []) (let a = before.long in omega arith) ∙ before.same;
          front = ap (λ r. r ++ more.2) (picked-push ranges before.others more.0 more.1 before.within near n) ∙ append_assoc (picked ranges before.others) (more.1 ∷ []) more.2
              ∙ ap (λ t. picked ranges before.others ++ t) (sym more.4) ∙ before.front;
        }

-- ---- first values with which no event begins

-- a conjunct is False on each row of the ranges that begins with d values which are alike
abbrev pub AreBarren : {V : Type 0} → Conjuncts V → List Tree → List (List V) → ℕ → List ℕ → ℕ → Type 0
AreBarren {V} l trees ranges word places d = (first : List ℕ) → AreWithin ranges first → length first ≡ d → AreAlike word places first → (more : List V) → IsRowOf ranges (picked ranges first ++ more)
    → IsFailed l trees (picked ranges first ++ more)

-- a row that a conjunct refutes is to be blamed on what that uses
module _ {V : Type 0} (l : Conjuncts V) (uses : ℕ → ℕ → Bool) (trees : List Tree) (ranges : List (List V)) (follow : FollowUsed l uses)
    (due : AreDueWithin l (length ranges)) (leaves : HaveLeavesWithin l.number trees) where
  pub refuted-barren : (word : ℕ) (places : List ℕ) (d : ℕ) → AreWithin ranges (take d places) → length (take d places) ≡ d
      → Covers l uses trees d (length trees) word → IsRefuted l trees (picked ranges (take d places)) → AreBarren l trees ranges word places d
  refuted-barren word places d w long covers r first v e alike more m =
      let here = take d places in
      let near : length first ≡ length here = e ∙ sym long in
      let a : length (picked ranges first ++ more) ≡ length ranges = IsRowOf-length ranges (picked ranges first ++ more) m in
      let b : length (picked ranges first ++ more) ≡ length (picked ranges here ++ more) =
      omega (arith, length-append (picked ranges here) more, length-append (picked ranges first) more, length-picked ranges here w, length-picked ranges first v, near) in
      let agree : AreAlike word here first = λ i low bit. alike i low bit ∙ sym (get_or-take d places i 0 (omega (arith, low, e))) in
      let touched : touches l d (tree_at trees r.0) ≡ true = subst (λ n. touches l n (tree_at trees r.0) ≡ true) (length-picked ranges here w ∙ long) r.3 in (
        r.0,
        r.1,
        tree-follows l uses follow (picked ranges here ++ more) (picked ranges first ++ more) (λ i. (d ≤ i) ⊎ HasBit word i)
            (λ i h. same-get ranges here first w v near (HasBit word) (λ j bit low. sym (agree j (omega (arith, low, near)) bit)) more i (subst (λ n. (n ≤ i) ⊎ HasBit word i) (sym long) h))
            (λ c m. omega (arith, due c m, a, b)) b (λ c. (i : ℕ) → i < d → uses c i ≡ true → HasBit word i)
            (λ c u i is. elim (cases_lt i d) [ inl low ↦ inr (u i low is) | inr far ↦ inl far ])
            (tree_at trees r.0) (leaves r.0 (leaf 0) r.1) (covers r.0 r.1 touched) False (r.2 more),
      )

module _ {V : Type 0} (l : Conjuncts V) (trees : List Tree) (ranges : List (List V)) (places : List ℕ) (k : ℕ) (near : k < length ranges) where
  -- an exhausted range is to be blamed on what all its values are
  pub spent-barren : (choice : Option (List ℕ)) (mark : Mark) → IsBlamed l trees ranges places k (length (get_or ranges k [])) choice mark → mark.is_open ≡ false → (d : ℕ) → d ≤ k
      → ((i : ℕ) → d ≤ i → i < k → HasBit mark.blame i → ⊥) → AreBarren l trees ranges mark.blame places d
  spent-barren choice mark spent closed d low none first w e alike more m =
      let row = picked ranges first ++ more in
      let there = reach ranges row m first d w e more refl (k - d) (omega (arith, low, near)) in
      let long : length there.others ≡ k = let a = there.long in omega (arith, low, a) in
      let last = one-more ranges row m k there.others there.tail there.within long near there.front in
      let n = last.3 in
      let is : picked ranges there.others ++ last.1 ∷ last.2 ≡ row = ap (λ t. picked ranges there.others ++ t) (sym last.4) ∙ there.front in
      let agree : AreAlike mark.blame places there.others = λ i short bit. elim (cases_lt i d) [
        | inl here ↦ sym (get_or-take d there.others i 0 here) ∙ ap (λ is. get_or is i 0) there.same ∙ alike i (omega (arith, here, e)) bit
        | inr far ↦ absurd (none i far (omega (arith, short, long)) bit)
      ] in
      subst (IsFailed l trees) is
      (spent closed there.others there.within long agree last.0 last.1 last.2 (slice_get-nth (get_or ranges k []) last.0 last.1 n) (inl n.within) (subst (IsRowOf ranges) (sym is) m))

  -- with the value at its place too
  alike-more : (word : ℕ) (others : List ℕ) → length others ≡ k → AreAlike word places others → AreAlike word places (others ++ get_or places k 0 ∷ [])
  alike-more word others long alike i low bit = elim (cases_eq i k) [
    | inl e ↦ ap (λ j. get_or (others ++ get_or places k 0 ∷ []) j 0) (e ∙ sym long) ∙ get_or-append_seam others (get_or places k 0) [] 0 ∙ ap (λ j. get_or places j 0) (sym e)
    | inr ne ↦
        let inside : i < length others = omega (arith, low, ne, long, length-append others (get_or places k 0 ∷ [])) in
        get_or_append_left others (get_or places k 0 ∷ []) 0 i inside ∙ alike i inside bit
  ]

  pub blamed-more : (choice : Option (List ℕ)) (old new : Mark) (word : ℕ) → IsBlamed l trees ranges places k (get_or places k 0) choice old → AreBarren l trees ranges word places (k + 1)
      → new.is_open ≡ old.is_open → new.blame ≡ bit_or old.blame word → IsBlamed l trees ranges places k (get_or places k 0 + 1) choice new
  blamed-more choice old new word before barren is_open blame closed others w long alike i v more at out m =
      let agree : AreAlike old.blame places others = λ j low bit. alike j low (subst (λ b. HasBit b j) (sym blame) (or-left old.blame word j bit)) in
      let also : AreAlike word places others = λ j low bit. alike j low (subst (λ b. HasBit b j) (sym blame) (or-right old.blame word j bit)) in
      let so = λ (o : (i < get_or places k 0) ⊎ (IsChosen choice i → ⊥)). before (sym is_open ∙ closed) others w long agree i v more at o m in
      elim (cases_eq i (get_or places k 0)) [
        | inl here ↦
            let inside : i < length (get_or ranges k []) = slice_get_within (get_or ranges k []) i v at in
            let n : IsNth (get_or ranges (length others) []) i v = subst (λ j. IsNth (get_or ranges j []) i v) (sym long)
            (record { within = inside; is = get_or_from_slice_get (get_or ranges k []) i v v at }) in
            let short : length others < length ranges = omega (arith, long, near) in
            let first = others ++ i ∷ [] in
            let joined : picked ranges first ++ more ≡ picked ranges others ++ v ∷ more = ap (λ r. r ++ more) (picked-push ranges others i v w short n)
            ∙ append_assoc (picked ranges others) (v ∷ []) more in
            subst (IsFailed l trees) joined
            (barren first (AreWithin-push ranges others i v w short n) (omega (arith, long, length-append others (i ∷ [])))
            (subst (λ p. AreAlike word places (others ++ p ∷ [])) (sym here) (alike-more word others long also)) more (subst (IsRowOf ranges) (sym joined) m))
        | inr other ↦ so (elim out [ inl low ↦ inl (omega arith) | inr not ↦ inr not ])
      ]

-- ---- the same of other places, values and marks

module _ {V : Type 0} (l : Conjuncts V) (trees : List Tree) (ranges : List (List V)) where
  pub blamed-as : (places new : List ℕ) (k n m : ℕ) (choice other : Option (List ℕ)) (old mark : Mark) → ((i : ℕ) → i < k → get_or new i 0 ≡ get_or places i 0) → m ≤ n → other ≡ choice → mark ≡ old
      → IsBlamed l trees ranges places k n choice old → IsBlamed l trees ranges new k m other mark
  blamed-as places new k n m choice other old mark same fewer e is h =
      subst (λ c. IsBlamed l trees ranges new k m c mark) (sym e)
      (subst (λ x. IsBlamed l trees ranges new k m choice x) (sym is)
      (λ closed others w long alike i v more at out row. h closed others w long (λ j low bit. alike j low bit ∙ same j (omega (arith, low, long))) i v more at
      (elim out [ inl low ↦ inl (omega arith) | inr not ↦ inr not ]) row))

  pub blamed-open : (places : List ℕ) (k n : ℕ) (choice : Option (List ℕ)) (mark : Mark) → mark.is_open ≡ true → IsBlamed l trees ranges places k n choice mark
  blamed-open places k n choice mark is_open closed = absurd (let z : true ≡ false = sym is_open ∙ closed in cc)

  -- up to the next chosen value
  pub blamed-skips : (places : List ℕ) (k n next : ℕ) (choice : Option (List ℕ)) (mark : Mark) → IsNextChoice choice n next
      → IsBlamed l trees ranges places k n choice mark → IsBlamed l trees ranges places k next choice mark
  blamed-skips places k n next choice mark skips h closed others w long alike i v more at out row = h closed others w long alike i v more at
      (elim out [
        | inl low ↦ elim (cases_lt i n) [ inl here ↦ inl here | inr far ↦ inr (skips.skipped i far low) ]
        | inr not ↦ inr not
      ]) row

  -- ---- before the first value

  take-same : (n : ℕ) (xs ys : List ℕ) → n ≤ length xs → n ≤ length ys → ((i : ℕ) → i < n → get_or xs i 0 ≡ get_or ys i 0) → take n xs ≡ take n ys
  take-same zero xs ys a b h = refl
  take-same (suc n) [] ys a b h = absurd (omega arith)
  take-same (suc n) (x ∷ xs) [] a b h = absurd (omega arith)
  take-same (suc n) (x ∷ xs) (y ∷ ys) a b h =
      let e : x ≡ y = h 0 (omega arith) in
      let rest : take n xs ≡ take n ys = take-same n xs ys (omega arith) (omega arith) (λ i low. h (suc i) (omega arith)) in cc

  -- those that are left out are to be blamed on what the choice was made of
  pub blamed-choice : (places : List ℕ) (k due : ℕ) (choice : Option (List ℕ)) (mark : Mark) → length (take k places) ≡ k → due ≤ k
      → ((i : ℕ) → i < due → HasBit mark.blame i) → StaysChoice l trees ranges k due (take k places) choice
      → IsBlamed l trees ranges places k 0 choice mark
  blamed-choice places k due choice mark all few bits stays closed others w long alike i v more at out m = elim out [
    | inl low ↦ absurd (omega arith)
    | inr not ↦ stays others w long
        (take-same due others (take k places) (omega (arith, few, long)) (omega (arith, few, all))
        (λ j low. alike j (omega (arith, low, few, long)) (bits j low) ∙ sym (get_or-take k places j 0 (omega (arith, low, few))))) i v more at not m
  ]
