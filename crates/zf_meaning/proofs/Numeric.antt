-- The numbers that terms come to.
use Rattle.zf_meaning.proofs.Prelude.{◌<◌, ◌∙◌, ◌∷◌, ◌≡◌, [], ap, arith, false, get_or, inl, length, List, map, None, Option, refl, Some, subst, sym, ℕ, ℤ, IfSome, Bor, is_Int, number_of-Int, number_of, OnNumbers, IsApplied, members, Outcome, Is, Truth, Int, Value, Application, Relation, link-seen, binary, chain, links, resolved_link_of, resolved_of, ResolvedTree, Resolved, ResolvedLink, is_membership, Context, found_of, HasOutcome, infinite_right, IsLink, IsTruth, Holds, IsAtom, IsConjunction, Span}
use Rattle.zf_value.specs.declared.value.Truth.TheVariants.{True, False, Out}

-- ---- names

pub found-is : (f : Option (Bor Value)) (o : Outcome) → found_of f ≡ o → IfSome f (λ v. Is v.now ≡ o)
found-is None o e = tt
found-is (Some v) o e = e

pub number-is : (v : Value) (o : Outcome) (r : Option ℤ) → Is v ≡ o → r ≡ number_of v → IfSome r (λ n. Is (Int n) ≡ o)
number-is v o None e h = tt
number-is v o (Some n) e h = ap Is (sym (is_Int v n h)) ∙ e

pub number-in : (v : Value) (o : Outcome) (r : Option ℤ) → o ≡ Is v → r ≡ number_of v → IfSome r (λ n. o ≡ Is (Int n))
number-in v o None e h = tt
number-in v o (Some n) e h = e ∙ ap Is (is_Int v n h)

-- ---- symbols

pub on-numbers : (P : ℤ → ℤ → Outcome → Type 0) (m n : ℤ) (o : Outcome) (r : Option ℤ) → P m n o → IfSome r (λ k. o ≡ Is (Int k))
    → IfSome r (λ k. OnNumbers (number_of (Int m)) (number_of (Int n)) P (Is (Int k)))
on-numbers P m n o None h e = tt
on-numbers P m n o (Some k) h e = rw (number_of-Int m, number_of-Int n) (subst (P m n) e h)

pub number-applied : (c : Context) (l : Span) (a b : ResolvedTree) (f x y : Value) (r : Option ℤ) → HasOutcome c a (Is f) → HasOutcome c b (Is x)
    → IsApplied (members f) x (Is y) → r ≡ number_of y → IfSome r (λ n. HasOutcome c (binary l Application a b) (Is (Int n)))
number-applied c l a b f x y None h g k q = tt
number-applied c l a b f x y (Some n) h g k q = (Is f, Is x, h, g, subst (λ (z : Value). IsApplied (members f) x (Is z)) (is_Int y n q) k)

-- ---- chains

alone : (P : Truth → Type 0) (u : Truth) → P u → IsConjunction P (λ q. q ≡ True) u
alone P True h = (h, refl)
alone P False h = inl h
alone P Out h = inl (h, inl refl)

pub one-link : (ks : List ResolvedLink) (k : ResolvedLink) → 0 < length ks → length ks < 2 → k ≡ get_or ks 0 k → ks ≡ k ∷ []
one-link [] k l m e = absurd (omega arith)
one-link (j ∷ []) k l m e = ap (λ z. z ∷ []) (sym e)
one-link (i ∷ j ∷ ks) k l m e = absurd (omega arith)

comparison : (c : Context) (r : Relation) (t : ResolvedTree) (x y : Outcome) (u : Truth) → is_membership r ≡ false → IsAtom x y (Holds r) u → IsLink (infinite_right c r t) r x y u
comparison c r t x y u e h = rw e h

pub compared-told : (c : Context) (l : Span) (a : ResolvedTree) (k : ResolvedLink) (m n : ℤ) (u : Truth) → is_membership k.relation ≡ false
    → HasOutcome c a (Is (Int m)) → HasOutcome c (resolved_of k.right) (Is (Int n)) → IsAtom (Is (Int m)) (Is (Int n)) (Holds k.relation) u
    → IsTruth c (chain l a (links (map resolved_link_of (k ∷ [])))) u
compared-told c l a k m n u e h g q =
    subst (λ z. IsTruth c (chain l a (links (z ∷ []))) u) (sym (link-seen k)) (
      Is (Int m),
      h,
      (
        Is (Int n),
        g,
        alone (IsLink (infinite_right c k.relation (resolved_of k.right)) k.relation (Is (Int m)) (Is (Int n))) u
            (comparison c k.relation (resolved_of k.right) (Is (Int m)) (Is (Int n)) u e q),
      ),
    )

pub chain-compared : (c : Context) (d : ResolvedTree) (l : Span) (t a : Resolved) (ks sl : List ResolvedLink) (r : Option Truth)
    → d ≡ chain l (resolved_of t) (links (map resolved_link_of ks)) → a ≡ t → sl ≡ ks
    → IfSome r (IsTruth c (chain l (resolved_of a) (links (map resolved_link_of sl)))) → IfSome r (IsTruth c d)
chain-compared c d l t a ks sl r e f g h =
    subst (λ z. IfSome r (IsTruth c z)) (sym e) (subst (λ zs. IfSome r (IsTruth c (chain l (resolved_of t) (links (map resolved_link_of zs))))) g
    (subst (λ z. IfSome r (IsTruth c (chain l (resolved_of z) (links (map resolved_link_of sl))))) f h))

pub at-some : {A : Type 0} (P : A → Type 0) (r : Option A) (x : A) → r ≡ Some x → IfSome r P → P x
at-some P r x e h = subst (λ o. IfSome o P) e h
