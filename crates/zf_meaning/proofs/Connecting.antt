-- What connectives tell of the truths of their sides.
use Rattle.zf_meaning.proofs.Prelude.{◌≡◌, inl, inr, refl, Some, subst, sym, Truth, Connective, And, Iff, Implies, Or, Quantifier, Exists, ExistsOne, ForAll, conjunction, connected, connective_of, decided, disjunction, equivalence, IsConjunction, IsConnected, IsDisjunction, IsEquivalence, IsTold, opposite}
use Rattle.zf_value.specs.declared.value.Truth.TheVariants.{True, False, Out}

pub conjoined : (p q : Truth) (P Q : Truth → Type 0) → P p → Q q → IsConjunction P Q (conjunction p q)
conjoined True True P Q h k = (h, k)
conjoined True False P Q h k = inr k
conjoined True Out P Q h k = inr (h, k)
conjoined False q P Q h k = inl h
conjoined Out True P Q h k = inl (h, inl k)
conjoined Out False P Q h k = inr k
conjoined Out Out P Q h k = inl (h, inr k)

disjoined : (p q : Truth) (P Q : Truth → Type 0) → P p → Q q → IsDisjunction P Q (disjunction p q)
disjoined False False P Q h k = (h, k)
disjoined False True P Q h k = inr k
disjoined False Out P Q h k = inr (h, k)
disjoined True q P Q h k = inl h
disjoined Out False P Q h k = inl (h, inl k)
disjoined Out True P Q h k = inr k
disjoined Out Out P Q h k = inl (h, inr k)

same_truth : (p u : Truth) → Some p ≡ Some u → p ≡ u
same_truth p u e = (cc)

agreed : (p q : Truth) (P Q : Truth → Type 0) → P p → Q q → IsEquivalence P Q (equivalence p q)
agreed Out q P Q h k = inl h
agreed True True P Q h k = inl (h, k)
agreed True False P Q h k = inl (h, k)
agreed True Out P Q h k = inr k
agreed False True P Q h k = inr (h, k)
agreed False False P Q h k = inr (h, k)
agreed False Out P Q h k = inr k

pub twice : (p : Truth) → opposite (opposite p) ≡ p
twice True = refl
twice False = refl
twice Out = refl

pub connected-told : (k : Connective) (p q : Truth) (P Q : Truth → Type 0) → P p → Q q → IsConnected k P Q (connected k p q)
connected-told And p q P Q h k = conjoined p q P Q h k
connected-told Or p q P Q h k = disjoined p q P Q h k
connected-told Implies p q P Q h k = disjoined (opposite p) q (λ u. P (opposite u)) Q (subst P (sym (twice p)) h) k
connected-told Iff p q P Q h k = agreed p q P Q h k

pub decided-told : (k : Connective) (p u : Truth) (P Q : Truth → Type 0) → P p → decided k p ≡ Some u → IsConnected k P Q u
decided-told And False u P Q h e = subst (IsConjunction P Q) (same_truth False u e) (inl h)
decided-told And True u P Q h e = (cc)
decided-told And Out u P Q h e = (cc)
decided-told Or True u P Q h e = subst (IsDisjunction P Q) (same_truth True u e) (inl h)
decided-told Or False u P Q h e = (cc)
decided-told Or Out u P Q h e = (cc)
decided-told Implies False u P Q h e = subst (IsDisjunction (λ w. P (opposite w)) Q) (same_truth True u e) (inl h)
decided-told Implies True u P Q h e = (cc)
decided-told Implies Out u P Q h e = (cc)
decided-told Iff Out u P Q h e = subst (IsEquivalence P Q) (same_truth Out u e) (inl h)
decided-told Iff True u P Q h e = (cc)
decided-told Iff False u P Q h e = (cc)

pub told-by : (q : Quantifier) (P Q : Truth → Type 0) (u : Truth) → IsConnected (connective_of q) P Q u → IsTold q P Q u
told-by ForAll P Q u h = h
told-by Exists P Q u h = h
told-by ExistsOne P Q u h = h

-- ---- conjunctions one after another

pub conjunction-false : (p : Truth) → conjunction p False ≡ False
conjunction-false True = refl
conjunction-false False = refl
conjunction-false Out = refl

pub conjunction-true : (p : Truth) → conjunction p True ≡ p
conjunction-true True = refl
conjunction-true False = refl
conjunction-true Out = refl

pub conjunction-assoc : (p q r : Truth) → conjunction p (conjunction q r) ≡ conjunction (conjunction p q) r
conjunction-assoc True q r = refl
conjunction-assoc False q r = refl
conjunction-assoc Out True r = refl
conjunction-assoc Out False r = refl
conjunction-assoc Out Out True = refl
conjunction-assoc Out Out False = refl
conjunction-assoc Out Out Out = refl
