-- Sets and relations: each operation on them has an outcome.
use Rattle.law_total.proofs.Prelude.{◌≡◌, inl, length, List, refl, subst, sym, ℕ, ⊎_elim, pos, IsBetween, IsFunctional, IsInDomain, IsInjective, IsInRange, IsPairOf, IsArrow, IsOfKind, IsRelationThat, IsTotal, pair, Relates, AreArrows, AreElements, IsApplied, IsComposition, IsCross, IsDisplay, IsDomain, IsDomainRestriction, IsDomainSubtraction, IsElement, IsImage, IsIntersection, IsInverse, IsOverriding, IsPower, IsRange, IsRangeRestriction, IsRangeSubtraction, IsSetDifference, IsSize, IsUnion, IsAscending, IsMember, IsSetOf, AreAmong, Is, Undefined, Elem, SetOf, Tuple, Value}
use Rattle.zf_tree.specs.declared.symbol.Arrow.{Arrow}
use Rattle.zf_tree.specs.declared.symbol.Arrow.TheVariants as kind
use Rattle.law_total.proofs.Listed.{HasSome, Decided, decided_both, decided_not, decided_then, decided_same, decided_some, decided_all, decided_in, Listed, listed_same, listed_either, listed_image, listed_kept, listed_pairs}
use Rattle.law_total.proofs.Naturals.{listed_below}
use Rattle.law_total.proofs.Numbers.{some_number}
use Rattle.law_total.proofs.Sets.{set_of, listed_parts}
use Rattle.law_total.proofs.Values.{same_value, decided_member, listed_members, listed_rows, listed_related}

-- ---- elements

pub some_elements : (n k : ℕ) → HasSome (AreElements n k)
unfolding AreElements IsElement
some_elements n k = set_of (listed_same (listed_image (λ i. Elem n i) (listed_below k)) (λ z. (λ h. (h.0, sym h.2, h.1), λ h. (h.0, h.2, sym h.1))))

-- ---- sets

pub some_display : (vs : List Value) → HasSome (IsDisplay vs)
unfolding IsDisplay
some_display vs = set_of (listed_members vs)

pub some_union : (a b : List Value) → HasSome (IsUnion a b)
unfolding IsUnion
some_union a b = set_of (listed_either (listed_members a) (listed_members b))

pub some_intersection : (a b : List Value) → HasSome (IsIntersection a b)
unfolding IsIntersection
some_intersection a b = set_of (listed_kept (λ z. IsMember z b) (listed_members a) (λ z. decided_member z b))

pub some_set_difference : (a b : List Value) → HasSome (IsSetDifference a b)
unfolding IsSetDifference
some_set_difference a b = set_of (listed_kept (λ z. IsMember z b → ⊥) (listed_members a) (λ z. decided_not (decided_member z b)))

pub some_size : (a : List Value) → HasSome (IsSize a)
unfolding IsSize
some_size a = some_number (pos (length a))

pub some_cross : (sets : List Value) → HasSome (IsCross sets)
unfolding IsCross
some_cross sets = set_of (listed_same (listed_image (λ vs. Tuple vs) (listed_rows sets)) (λ z. (λ h. (h.0, sym h.2, h.1), λ h. (h.0, h.2, sym h.1))))

pub some_power : (a : List Value) → HasSome (IsPower a)
unfolding IsPower AreAmong
some_power a = set_of (listed_same (listed_image (λ xs. SetOf xs) (listed_parts (listed_members a))) (λ z. (λ h. (h.0, sym h.2, h.1.0, h.1.1), λ h. (h.0, (h.2, h.3), sym h.1))))

-- ---- relations

listed_domain : (r : List Value) → Listed (IsInDomain r)
listed_domain r =
    listed_same (listed_image (λ (p : Value × Value). p.0) (listed_related r)) (λ x. (λ h. (h.0.1, subst (λ u. Relates r u h.0.1) h.2 h.1), λ h. ((x, h.0), h.1, refl)))

listed_range : (r : List Value) → Listed (IsInRange r)
listed_range r =
    listed_same (listed_image (λ (p : Value × Value). p.1) (listed_related r)) (λ y. (λ h. (h.0.0, subst (λ u. Relates r h.0.0 u) h.2 h.1), λ h. ((h.0, y), h.1, refl)))

decided_in_domain : (r : List Value) (x : Value) → Decided (IsInDomain r x)
decided_in_domain r x = decided_in same_value (listed_domain r) x

pub some_domain : (r : List Value) → HasSome (IsDomain r)
unfolding IsDomain
some_domain r = set_of (listed_domain r)

pub some_range : (r : List Value) → HasSome (IsRange r)
unfolding IsRange
some_range r = set_of (listed_range r)

pub some_inverse : (r : List Value) → HasSome (IsInverse r)
unfolding IsInverse
some_inverse r =
    set_of (listed_same (listed_image (λ (p : Value × Value). pair p.1 p.0) (listed_related r)) (λ z. (λ h. (h.0.0, h.0.1, sym h.2, h.1), λ h. ((h.0, h.1), h.3, sym h.2))))

pub some_image : (r a : List Value) → HasSome (IsImage r a)
unfolding IsImage
some_image r a =
    set_of (listed_same (listed_image (λ (p : Value × Value). p.1) (listed_kept (λ (p : Value × Value). IsMember p.0 a) (listed_related r) (λ p. decided_member p.0 a))) (λ y. (
      λ h. (h.0.0, h.1.1, subst (λ u. Relates r h.0.0 u) h.2 h.1.0),
      λ h. ((h.0, y), (h.2, h.1), refl),
    )))

-- two pairs, of which the second begins where the first ends
abbrev IsPath : List Value → List Value → (Value × Value) × (Value × Value) → Type 0
IsPath r q p = (Relates r p.0.0 p.0.1 × Relates q p.1.0 p.1.1) × (p.0.1 ≡ p.1.0)

listed_paths : (r q : List Value) → Listed (IsPath r q)
listed_paths r q =
    listed_kept (λ (p : (Value × Value) × (Value × Value)). p.0.1 ≡ p.1.0)
    (listed_pairs (λ (a b : Value × Value). Relates q b.0 b.1) (listed_related r) (λ a. listed_related q)) (λ p. same_value p.0.1 p.1.0)

pub some_composition : (r q : List Value) → HasSome (IsComposition r q)
unfolding IsComposition
some_composition r q =
    set_of (listed_same (listed_image (λ (p : (Value × Value) × (Value × Value)). pair p.0.0 p.1.1) (listed_paths r q)) (λ z. (
      λ h. (h.0.0.0, h.0.0.1, h.0.1.1, sym h.2, h.1.0.0, subst (λ u. Relates q u h.0.1.1) (sym h.1.1) h.1.0.1),
      λ h. (((h.0, h.1), (h.1, h.2)), ((h.4, h.5), refl), sym h.3),
    )))

listed_pairs_of : (r : List Value) (P : Value → Value → Type 0) → ((x y : Value) → Decided (P x y)) → Listed (IsPairOf r P)
listed_pairs_of r P d =
    listed_same (listed_image (λ (p : Value × Value). pair p.0 p.1) (listed_kept (λ (p : Value × Value). P p.0 p.1) (listed_related r) (λ p. d p.0 p.1))) (λ z. (
      λ h. (h.0.0, h.0.1, sym h.2, h.1.0, h.1.1),
      λ h. ((h.0, h.1), (h.3, h.4), sym h.2),
    ))

pub some_overriding : (r q : List Value) → HasSome (IsOverriding r q)
unfolding IsOverriding
some_overriding r q = set_of (listed_either (listed_members q) (listed_pairs_of r (λ x y. IsInDomain q x → ⊥) (λ x y. decided_not (decided_in_domain q x))))

pub some_domain_restriction : (a r : List Value) → HasSome (IsDomainRestriction a r)
unfolding IsDomainRestriction
some_domain_restriction a r = set_of (listed_pairs_of r (λ x y. IsMember x a) (λ x y. decided_member x a))

pub some_domain_subtraction : (a r : List Value) → HasSome (IsDomainSubtraction a r)
unfolding IsDomainSubtraction
some_domain_subtraction a r = set_of (listed_pairs_of r (λ x y. IsMember x a → ⊥) (λ x y. decided_not (decided_member x a)))

pub some_range_restriction : (r b : List Value) → HasSome (IsRangeRestriction r b)
unfolding IsRangeRestriction
some_range_restriction r b = set_of (listed_pairs_of r (λ x y. IsMember y b) (λ x y. decided_member y b))

pub some_range_subtraction : (r b : List Value) → HasSome (IsRangeSubtraction r b)
unfolding IsRangeSubtraction
some_range_subtraction r b = set_of (listed_pairs_of r (λ x y. IsMember y b → ⊥) (λ x y. decided_not (decided_member y b)))

-- ---- application

listed_related_to : (f : List Value) (x : Value) → Listed (Relates f x)
listed_related_to f x =
    listed_same (listed_image (λ (p : Value × Value). p.1) (listed_kept (λ (p : Value × Value). p.0 ≡ x) (listed_related f) (λ p. same_value p.0 x))) (λ y. (
      λ h. subst (λ u. Relates f x u) h.2 (subst (λ u. Relates f u h.0.1) h.1.1 h.1.0),
      λ h. ((x, y), (h, refl), refl),
    ))

pub some_applied : (f : List Value) (x : Value) → HasSome (IsApplied f x)
unfolding IsApplied
some_applied f x =
    ⊎_elim (λ h. (Is h.0, (h.1, h.2))) (λ n. (Undefined, λ y h. n (y, h.0, h.1)))
    (decided_some (λ y. (z : Value) → Relates f x z → z ≡ y) (listed_related_to f x) (λ y. decided_all (λ z. z ≡ y) (listed_related_to f x) (λ z. same_value z y)))

-- ---- sets of relations

listed_relations : (a b : List Value) → Listed (λ r. IsAscending r × IsBetween a b r)
listed_relations a b =
    listed_parts (listed_same (listed_image (λ (p : Value × Value). pair p.0 p.1) (listed_pairs (λ x y. IsMember y b) (listed_members a) (λ x. listed_members b))) (λ z. (
      λ h. (h.0.0, h.0.1, sym h.2, h.1.0, h.1.1),
      λ h. ((h.0, h.1), (h.3, h.4), sym h.2),
    )))

some_that : (P : List Value → Type 0) → ((r : List Value) → Decided (P r)) → (a b : List Value) → HasSome (IsSetOf (IsRelationThat P a b))
some_that P d a b =
    set_of (listed_same (listed_image (λ r. SetOf r) (listed_kept P (listed_relations a b) d)) (λ z. (
      λ h. (h.0, sym h.2, h.1.0.0, h.1.0.1, h.1.1),
      λ h. (h.0, ((h.2, h.3), h.4), sym h.1),
    )))

-- of each two pairs this is decided
decided_of_pairs : (r : List Value) (P : Value × Value → Value × Value → Type 0) → ((p q : Value × Value) → Decided (P p q))
    → Decided ((p : Value × Value) → Relates r p.0 p.1 → (q : Value × Value) → Relates r q.0 q.1 → P p q)
decided_of_pairs r P d = decided_all (λ (p : Value × Value). (q : Value × Value) → Relates r q.0 q.1
    → P p q) (listed_related r) (λ p. decided_all (λ (q : Value × Value). P p q) (listed_related r) (λ q. d p q))

decided_functional : (r : List Value) → Decided (IsFunctional r)
decided_functional r =
    decided_same (λ f x y z h k. f (x, y) h (x, z) k refl) (λ f p h q k e. f p.0 p.1 q.1 h (subst (λ u. Relates r u q.1) (sym e) k))
    (decided_of_pairs r (λ p q. p.0 ≡ q.0 → p.1 ≡ q.1) (λ p q. decided_then (same_value p.0 q.0) (same_value p.1 q.1)))

decided_injective : (r : List Value) → Decided (IsInjective r)
decided_injective r =
    decided_same (λ f x y z h k. f (x, z) h (y, z) k refl) (λ f p h q k e. f p.0 q.0 p.1 h (subst (λ u. Relates r q.0 u) (sym e) k))
    (decided_of_pairs r (λ p q. p.1 ≡ q.1 → p.0 ≡ q.0) (λ p q. decided_then (same_value p.1 q.1) (same_value p.0 q.0)))

decided_total : (a r : List Value) → Decided (IsTotal a r)
decided_total a r = decided_all (IsInDomain r) (listed_members a) (λ x. decided_in_domain r x)

decided_kind : (arrow : Arrow) (a r : List Value) → Decided (IsOfKind arrow a r)
decided_kind kind.Relation a r = inl tt
decided_kind kind.PartialFunction a r = decided_functional r
decided_kind kind.TotalFunction a r = decided_both (decided_functional r) (decided_total a r)
decided_kind kind.PartialInjection a r = decided_both (decided_functional r) (decided_injective r)
decided_kind kind.TotalInjection a r =
    decided_same (λ h. (h.0.0, h.0.1, h.1)) (λ h. ((h.0, h.1), h.2)) (decided_both (decided_both (decided_functional r) (decided_injective r)) (decided_total a r))

pub some_arrows : (arrow : Arrow) (a b : List Value) → HasSome (AreArrows arrow a b)
unfolding AreArrows IsArrow
some_arrows arrow a b = some_that (IsOfKind arrow a) (decided_kind arrow a) a b
