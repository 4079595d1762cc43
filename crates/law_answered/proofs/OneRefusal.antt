-- The sizes of an environment are one list, and sizes that don't fit have one first fault.
use Rattle.law_answered.proofs.Prelude.{◌++◌, ◌<◌, ◌∙◌, ◌∷◌, ◌≡◌, ◌≤◌, ◌⊎◌, [], ap, arith, inl, inr, length, List, refl, subst, sym, ℕ, All-contains, ◌≢◌, Contains, Contains-cases, Contains-head, Contains-nil, Contains-right, SET_MAX, Defined, Definition, free_type, given_set, Size, SizeFault, Contains-map, AddsSize, AreAccepted, AreComplete, AreSizes, IsAccepted, IsRefusal, IsSizeFault, IsStated, LacksSize, RefusesSize, names}
use Rattle.zf_meaning.specs.declared.sizes.SizeFault.TheVariants.{NoSize, NotGiven, SizeTwice, SizeTooLarge, OutOfMemory}

-- ---- two places of one list

-- they are one, or the element at one of them stands before the other
pub two_places : {X : Type 0} (front : List X) (x : X) (rest other_front : List X) (y : X) (other_rest : List X) → front ++ x ∷ rest ≡ other_front ++ y ∷ other_rest
    → ((front ≡ other_front) × (x ≡ y)) ⊎ (((mid : List X) × (other_front ≡ front ++ x ∷ mid)) ⊎ ((mid : List X) × (front ≡ other_front ++ y ∷ mid)))
two_places [] x rest [] y other_rest e = inl (refl, cc)
two_places [] x rest (w ∷ other_front) y other_rest e = let h : w ≡ x = cc in inr (inl (other_front, ap (λ z. z ∷ other_front) h))
two_places (v ∷ front) x rest [] y other_rest e = let h : v ≡ y = cc in inr (inr (front, ap (λ z. z ∷ front) h))
two_places {X} (v ∷ front) x rest (w ∷ other_front) y other_rest e =
    let head : v ≡ w = cc in
    let tail : front ++ x ∷ rest ≡ other_front ++ y ∷ other_rest = cc in
    elim (two_places front x rest other_front y other_rest tail) [
      | inl p ↦ inl (ap (λ z. z ∷ front) head ∙ ap (λ zs. w ∷ zs) p.0, p.1)
      | inr (inl p) ↦ inr (inl (p.0, ap (λ z. z ∷ other_front) (sym head) ∙ ap (λ zs. v ∷ zs) p.1))
      | inr (inr p) ↦ inr (inr (p.0, ap (λ z. z ∷ front) head ∙ ap (λ zs. w ∷ zs) p.1))
    ]

pub placed : {X : Type 0} (xs : List X) (x : X) → Contains xs x → (front rest : List X) × (xs ≡ front ++ x ∷ rest)
placed [] x m = absurd (Contains-nil x m)
placed {X} (y ∷ xs) x m = elim (Contains-cases y xs x m) [
  | inl e ↦ ([], xs, ap (λ z. z ∷ xs) e)
  | inr n ↦ let r = placed xs x n in (y ∷ r.0, r.1, ap (λ zs. y ∷ zs) r.2)
]

-- ---- the first fault

apart : (m n : ℕ) → m < n → n ≤ m → ⊥
apart m n h k = omega arith

-- a size that is refused is not accepted
not_accepted : (sets : List (List ℕ)) (earlier : List Size) (size : Size) (fault : SizeFault) → fault ≢ OutOfMemory → IsSizeFault sets earlier size fault → IsAccepted sets earlier size → ⊥
not_accepted sets earlier size (NoSize name) some r a = r
not_accepted sets earlier size (NotGiven name) some r a = r.1 (subst (Contains sets) (sym r.0) a.given)
not_accepted sets earlier size (SizeTwice name) some r a = a.first (subst (Contains (names earlier)) r.0 r.2)
not_accepted sets earlier size (SizeTooLarge name) some r a = apart SET_MAX size.count r.3 a.small
not_accepted sets earlier size OutOfMemory some r a = some refl

-- one size is refused in one way
one_way : (sets : List (List ℕ)) (earlier : List Size) (size : Size) (one two : SizeFault) → one ≢ OutOfMemory → two ≢ OutOfMemory
    → IsSizeFault sets earlier size one → IsSizeFault sets earlier size two → one ≡ two
one_way sets earlier size OutOfMemory two some other_some r q = absurd (some refl)
one_way sets earlier size (NoSize n) two some other_some r q = absurd r
one_way sets earlier size _ OutOfMemory some other_some r q = absurd (other_some refl)
one_way sets earlier size _ (NoSize m) some other_some r q = absurd q
one_way sets earlier size (NotGiven n) (NotGiven m) some other_some r q = ap NotGiven (r.0 ∙ sym q.0)
one_way sets earlier size (NotGiven n) _ some other_some r q = absurd (r.1 (subst (Contains sets) (q.0 ∙ sym r.0) q.1))
one_way sets earlier size _ (NotGiven m) some other_some r q = absurd (q.1 (subst (Contains sets) (r.0 ∙ sym q.0) r.1))
one_way sets earlier size (SizeTwice n) (SizeTwice m) some other_some r q = ap SizeTwice (r.0 ∙ sym q.0)
one_way sets earlier size (SizeTwice n) (SizeTooLarge m) some other_some r q = absurd (q.2 (subst (Contains (names earlier)) (r.0 ∙ sym q.0) r.2))
one_way sets earlier size (SizeTooLarge n) (SizeTwice m) some other_some r q = absurd (r.2 (subst (Contains (names earlier)) (q.0 ∙ sym r.0) q.2))
one_way sets earlier size (SizeTooLarge n) (SizeTooLarge m) some other_some r q = ap SizeTooLarge (r.0 ∙ sym q.0)

-- a size is refused, or a given set has none
abbrev IsOfEither : List (List ℕ) → List Size → SizeFault → Type 0
IsOfEither sets sizes fault = RefusesSize sets sizes fault ⊎ ((name : List ℕ) × (fault ≡ NoSize name) × LacksSize sets sizes name)

of_either : (sets : List (List ℕ)) (sizes : List Size) (fault : SizeFault) → fault ≢ OutOfMemory → IsRefusal sets sizes fault → IsOfEither sets sizes fault
of_either sets sizes (NoSize name) some r = inr (name, refl, r)
of_either sets sizes OutOfMemory some r = absurd (some refl)
of_either sets sizes _ some r = inl r

same_refused : (sets : List (List ℕ)) (sizes : List Size) (one two : SizeFault) → one ≢ OutOfMemory → two ≢ OutOfMemory → RefusesSize sets sizes one → RefusesSize sets sizes two → one ≡ two
same_refused sets sizes one two some other_some r q = elim (two_places r.earlier r.size r.later q.earlier q.size q.later (sym r.split ∙ q.split)) [
  | inl p ↦ one_way sets q.earlier q.size one two some other_some (subst (λ s. IsSizeFault sets q.earlier s one) p.1 (subst (λ es. IsSizeFault sets es r.size one) p.0 r.refused)) q.refused
  | inr (inl p) ↦ absurd (not_accepted sets r.earlier r.size one some r.refused (q.accepted r.earlier r.size p.0 p.1))
  | inr (inr p) ↦ absurd (not_accepted sets q.earlier q.size two other_some q.refused (r.accepted q.earlier q.size p.0 p.1))
]

lacks_refused : (sets : List (List ℕ)) (sizes : List Size) (name : List ℕ) (fault : SizeFault) → fault ≢ OutOfMemory → AreAccepted sets sizes → RefusesSize sets sizes fault → ⊥
lacks_refused sets sizes name fault some all r = not_accepted sets r.earlier r.size fault some r.refused (all r.earlier r.size r.later r.split)

same_lacking : (sets : List (List ℕ)) (sizes : List Size) (n m : List ℕ) → LacksSize sets sizes n → LacksSize sets sizes m → n ≡ m
same_lacking sets sizes n m r q = elim (two_places r.earlier n r.later q.earlier m q.later (sym r.split ∙ q.split)) [
  | inl p ↦ p.1
  | inr (inl p) ↦ absurd (r.lacking (All-contains (λ set. Contains (names sizes) set) q.earlier n q.sized
      (subst (λ xs. Contains xs n) (sym p.1) (Contains-right r.earlier (n ∷ p.0) n (Contains-head n p.0)))))
  | inr (inr p) ↦ absurd (q.lacking (All-contains (λ set. Contains (names sizes) set) r.earlier m r.sized
      (subst (λ xs. Contains xs m) (sym p.1) (Contains-right q.earlier (m ∷ p.0) m (Contains-head m p.0)))))
]

-- sizes that don't fit have one first fault
pub one_refusal : (sets : List (List ℕ)) (sizes : List Size) (one two : SizeFault) → one ≢ OutOfMemory → two ≢ OutOfMemory → IsRefusal sets sizes one → IsRefusal sets sizes two → one ≡ two
one_refusal sets sizes one two some other_some r q = go (of_either sets sizes one some r) (of_either sets sizes two other_some q)
  where
    go : IsOfEither sets sizes one → IsOfEither sets sizes two → one ≡ two
    go (inl x) (inl y) = same_refused sets sizes one two some other_some x y
    go (inl x) (inr y) = absurd (lacks_refused sets sizes y.0 one some y.2.accepted x)
    go (inr x) (inl y) = absurd (lacks_refused sets sizes x.0 two other_some x.2.accepted y)
    go (inr x) (inr y) = x.1 ∙ ap NoSize (same_lacking sets sizes x.0 y.0 x.2 y.2) ∙ sym y.1

-- sizes that fit have none
pub none_refused : (sets : List (List ℕ)) (sizes : List Size) (fault : SizeFault) → AreComplete sets sizes → fault ≢ OutOfMemory → IsRefusal sets sizes fault → ⊥
none_refused sets sizes fault complete some r = elim (of_either sets sizes fault some r) [
  | inl x ↦ lacks_refused sets sizes [] fault some complete.accepted x
  | inr x ↦
      let l = x.2 in
      l.lacking (All-contains (λ set. Contains (names sizes) set) sets x.0 complete.sized
      (subst (λ xs. Contains xs x.0) (sym l.split) (Contains-right l.earlier (x.0 ∷ l.later) x.0 (Contains-head x.0 l.later))))
]

-- ---- the sizes

-- a name has one size
one_stated : (sets : List (List ℕ)) (stated : List Size) → AreAccepted sets stated → (name : List ℕ) (k l : ℕ) → IsStated stated name k → IsStated stated name l → k ≡ l
one_stated sets stated all name k l h g =
    let size : Size = record { name = name; count = k } in
    let other_size : Size = record { name = name; count = l } in
    let p = placed stated size h in
    let q = placed stated other_size g in
    let named : (before mid : List Size) (s : Size) → (s.name ≡ name) → Contains (names (before ++ s ∷ mid)) name =
    λ before mid s e. subst (Contains (names (before ++ s ∷ mid))) e (Contains-map (λ (s : Size). s.name) (before ++ s ∷ mid) s (Contains-right before (s ∷ mid) s (Contains-head s mid))) in
    elim (two_places p.0 size p.1 q.0 other_size q.1 (sym p.2 ∙ q.2)) [
      | inl r ↦ ap (λ (s : Size). s.count) r.1
      | inr (inl r) ↦ absurd ((all q.0 other_size q.1 q.2).first (subst (λ es. Contains (names es) name) (sym r.1) (named p.0 r.0 size refl)))
      | inr (inr r) ↦ absurd ((all p.0 size p.1 p.2).first (subst (λ es. Contains (names es) name) (sym r.1) (named q.0 r.0 other_size refl)))
    ]

abbrev HasOneSize : List Size → Type 0
HasOneSize stated = (name : List ℕ) (k l : ℕ) → IsStated stated name k → IsStated stated name l → k ≡ l

one_added : (stated : List Size) → HasOneSize stated → (name : List ℕ) (d : Definition) (later other k l : List ℕ) → later ≡ other
    → AddsSize stated name d later k → AddsSize stated name d other l → k ≡ l
one_added stated one name (given_set n) later other k l e p q = p.2 ∙ ap (λ c. c ∷ later) (one name p.0 q.0 p.1 q.1) ∙ ap (λ cs. q.0 ∷ cs) e ∙ sym q.2
one_added stated one name (free_type n names) later other k l e p q = p ∙ ap (λ cs. length names ∷ cs) e ∙ sym q
one_added stated one name _ later other k l e p q = p ∙ e ∙ sym q

added_all : (stated : List Size) → HasOneSize stated → (g : List Defined) (k l : List ℕ) → AreSizes stated g k → AreSizes stated g l → k ≡ l
added_all stated one [] k l p q = p ∙ sym q
added_all stated one (d ∷ g) k l p q = one_added stated one d.name d.definition p.0 q.0 k l (added_all stated one g p.0 q.0 p.1 q.1) p.2 q.2

-- the sizes of the given sets and free types are one list
pub one_sizes : (sets : List (List ℕ)) (stated : List Size) → AreComplete sets stated → (g : List Defined) (k l : List ℕ) → AreSizes stated g k → AreSizes stated g l → k ≡ l
one_sizes sets stated complete g k l p q = added_all stated (one_stated sets stated complete.accepted) g k l p q
