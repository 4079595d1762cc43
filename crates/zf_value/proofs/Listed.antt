-- What each operation on sets and relations lists.
use Rattle.zf_value.proofs.Prelude.{◌++◌, ◌+◌, ◌<◌, ◌↔◌, ◌∙◌, ◌∷◌, ◌≡◌, ◌⊎◌, [], ap, get_or, length, List, refl, Result, subst, sym, take, ℕ, IfOk, AllocError, IsInDomain, IsInRange, IsPairOf, pair, Relates, IsDisplay, IsDomain, IsDomainRestriction, IsDomainSubtraction, IsImage, IsIntersection, IsInverse, IsRange, IsRangeRestriction, IsRangeSubtraction, IsSetDifference, IsUnion, IsMember, IsKept, IsPartOf, IsSelected, IsGathered, IsJoined, Keep, Members, Others, First, Second, Whole, Value, Outcome}
use Rattle.zf_value.proofs.Gathered.{same_pair, gathered_push, gathered_pass}
use Rattle.zf_value.proofs.Making.{made, made_gathered}

-- the answer is the set of what passes
abbrev pub IsMade : (Outcome → Type 0) → Result Outcome AllocError → Type 0
IsMade P r = IfOk r P

-- ---- sets

pub union_made : (a b all : List Value) (r : Result Outcome AllocError) → IsJoined a b all → IfOk r (IsDisplay all) → IsMade (IsUnion a b) r
unfolding IsUnion IsJoined
union_made a b all r j d =
    made (λ z. IsMember z a ⊎ IsMember z b) all r j d

whole_kept : (keep : Keep) (a b : List Value) (w : Value) → ((z : Value) × IsMember z a × IsSelected Whole keep b Whole z w) ↔ (IsMember w a × IsKept keep b w)
whole_kept keep a b w =
    (λ s. (subst (λ u. IsMember u a) s.2.3 s.1, subst (IsKept keep b) (sym s.2.1 ∙ s.2.3) s.2.2), λ m. (w, m.0, (w, refl, m.1, refl)))

pub intersection_made : (a b all : List Value) (r : Result Outcome AllocError) → IsGathered (IsSelected Whole Members b Whole) a all → IfOk r (IsDisplay all) → IsMade (IsIntersection a b) r
unfolding IsIntersection
intersection_made a b all r g d =
    made_gathered _ (λ z. IsMember z a × IsMember z b) a all r g (whole_kept Members a b) d

pub set_difference_made : (a b all : List Value) (r : Result Outcome AllocError) → IsGathered (IsSelected Whole Others b Whole) a all → IfOk r (IsDisplay all) → IsMade (IsSetDifference a b) r
unfolding IsSetDifference
set_difference_made a b all r g d =
    made_gathered _ (λ z. IsMember z a × (IsMember z b → ⊥)) a all r g (whole_kept Others a b) d

-- ---- relations

pub in_domain : (r : List Value) (w : Value) → ((z : Value) × IsMember z r × IsPartOf First z w) ↔ IsInDomain r w
in_domain r w = (λ s. (s.2.0, subst (λ u. IsMember u r) s.2.1 s.1), λ p. (pair w p.0, p.1, (p.0, refl)))

pub domain_made : (r all : List Value) (o : Result Outcome AllocError) → IsGathered (IsPartOf First) r all → IfOk o (IsDisplay all) → IsMade (IsDomain r) o
unfolding IsDomain
domain_made r all o g d =
    made_gathered _ (IsInDomain r) r all o g (in_domain r) d

in_range : (r : List Value) (w : Value) → ((z : Value) × IsMember z r × IsPartOf Second z w) ↔ IsInRange r w
in_range r w = (λ s. (s.2.0, subst (λ u. IsMember u r) s.2.1 s.1), λ p. (pair p.0 w, p.1, (p.0, refl)))

pub range_made : (r all : List Value) (o : Result Outcome AllocError) → IsGathered (IsPartOf Second) r all → IfOk o (IsDisplay all) → IsMade (IsRange r) o
unfolding IsRange
range_made r all o g d =
    made_gathered _ (IsInRange r) r all o g (in_range r) d

abbrev pub IsTurned : Value → Value → Type 0
IsTurned z w = (x y : Value) × (z ≡ pair x y) × (w ≡ pair y x)

abbrev IsInversePair : List Value → Value → Type 0
IsInversePair r z = (x y : Value) × (z ≡ pair y x) × Relates r x y

in_inverse : (r : List Value) (w : Value) → ((z : Value) × IsMember z r × IsTurned z w) ↔ IsInversePair r w
in_inverse r w = (λ s. (s.2.0, s.2.1, s.2.3, subst (λ u. IsMember u r) s.2.2 s.1), λ p. (pair p.0 p.1, p.3, (p.0, p.1, refl, p.2)))

pub inverse_made : (r all : List Value) (o : Result Outcome AllocError) → IsGathered IsTurned r all → IfOk o (IsDisplay all) → IsMade (IsInverse r) o
unfolding IsInverse
inverse_made r all o g d =
    made_gathered IsTurned (IsInversePair r) r all o g (in_inverse r) d

turned : (z : Value) (x y : Value) → z ≡ pair x y → (w : Value) → IsTurned z w ↔ (pair y x ≡ w)
turned z x y e w =
    (λ t. let same = same_pair x y t.0 t.1 (sym e ∙ t.2) in ap (λ u. pair u x) same.1 ∙ ap (pair t.1) same.0 ∙ sym t.3, λ s. (x, y, e, sym s))

pub turned_more : (xs : List Value) (i : ℕ) (z : Value) (out new : List Value) (x y v : Value) → z ≡ get_or xs i z → i < length xs
    → IsGathered IsTurned (take i xs) out → z ≡ pair x y → v ≡ pair y x → new ≡ out ++ v ∷ [] → IsGathered IsTurned (take (i + 1) xs) new
turned_more xs i z out new x y v e l h p k n = gathered_push IsTurned xs i z out new v e l h (λ w. subst (λ u. IsTurned z w ↔ (u ≡ w)) (sym k) (turned z x y p w)) n

pub turned_pass : (xs : List Value) (i : ℕ) (z : Value) (out : List Value) → z ≡ get_or xs i z → i < length xs → IsGathered IsTurned (take i xs) out
    → ((x y : Value) → z ≡ pair x y → ⊥) → IsGathered IsTurned (take (i + 1) xs) out
turned_pass xs i z out e l h f = gathered_pass IsTurned xs i z out e l h (λ w t. f t.0 t.1 t.2)

in_image : (r a : List Value) (w : Value) → ((z : Value) × IsMember z r × IsSelected First Members a Second z w) ↔ ((x : Value) × IsMember x a × Relates r x w)
in_image r a w = (
  λ s.
      let same = same_pair s.2.0 s.2.1.0 s.2.3.0 w (sym s.2.1.1 ∙ s.2.3.1) in
      (s.2.0, s.2.2, subst (λ u. IsMember u r) (s.2.1.1 ∙ ap (pair s.2.0) same.1) s.1),
  λ p. (pair p.0 w, p.2, (p.0, (w, refl), p.1, (p.0, refl))),
)

pub image_made : (r a all : List Value) (o : Result Outcome AllocError) → IsGathered (IsSelected First Members a Second) r all → IfOk o (IsDisplay all) → IsMade (IsImage r a) o
unfolding IsImage
image_made r a all o g d =
    made_gathered _ (λ y. (x : Value) × IsMember x a × Relates r x y) r all o g (in_image r a) d

pub by_first : (keep : Keep) (a r : List Value) (w : Value) → ((z : Value) × IsMember z r × IsSelected First keep a Whole z w) ↔ IsPairOf r (λ x y. IsKept keep a x) w
by_first keep a r w =
    (λ s. (s.2.0, s.2.1.0, sym s.2.3 ∙ s.2.1.1, subst (λ u. IsMember u r) s.2.1.1 s.1, s.2.2), λ p. (w, subst (λ u. IsMember u r) (sym p.2) p.3, (p.0, (p.1, p.2), p.4, refl)))

by_second : (keep : Keep) (b r : List Value) (w : Value) → ((z : Value) × IsMember z r × IsSelected Second keep b Whole z w) ↔ IsPairOf r (λ x y. IsKept keep b y) w
by_second keep b r w =
    (λ s. (s.2.1.0, s.2.0, sym s.2.3 ∙ s.2.1.1, subst (λ u. IsMember u r) s.2.1.1 s.1, s.2.2), λ p. (w, subst (λ u. IsMember u r) (sym p.2) p.3, (p.1, (p.0, p.2), p.4, refl)))

pub domain_restriction_made : (a r all : List Value) (o : Result Outcome AllocError) → IsGathered (IsSelected First Members a Whole) r all → IfOk o (IsDisplay all) → IsMade (IsDomainRestriction a r) o
unfolding IsDomainRestriction
domain_restriction_made a r all o g d =
    made_gathered _ (IsPairOf r (λ x y. IsMember x a)) r all o g (by_first Members a r) d

pub domain_subtraction_made : (a r all : List Value) (o : Result Outcome AllocError) → IsGathered (IsSelected First Others a Whole) r all → IfOk o (IsDisplay all) → IsMade (IsDomainSubtraction a r) o
unfolding IsDomainSubtraction
domain_subtraction_made a r all o g d =
    made_gathered _ (IsPairOf r (λ x y. IsMember x a → ⊥)) r all o g (by_first Others a r) d

pub range_restriction_made : (r b all : List Value) (o : Result Outcome AllocError) → IsGathered (IsSelected Second Members b Whole) r all → IfOk o (IsDisplay all) → IsMade (IsRangeRestriction r b) o
unfolding IsRangeRestriction
range_restriction_made r b all o g d =
    made_gathered _ (IsPairOf r (λ x y. IsMember y b)) r all o g (by_second Members b r) d

pub range_subtraction_made : (r b all : List Value) (o : Result Outcome AllocError) → IsGathered (IsSelected Second Others b Whole) r all → IfOk o (IsDisplay all) → IsMade (IsRangeSubtraction r b) o
unfolding IsRangeSubtraction
range_subtraction_made r b all o g d =
    made_gathered _ (IsPairOf r (λ x y. IsMember y b → ⊥)) r all o g (by_second Others b r) d
