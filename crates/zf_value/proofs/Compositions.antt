-- What composition and overriding list.
use Rattle.zf_value.proofs.Prelude.{◌++◌, ◌+◌, ◌<◌, ◌↔◌, ◌∙◌, ◌∷◌, ◌≡◌, ◌≤◌, ◌⊎◌, [], add-one, ap, get_or, inl, inr, length, List, refl, Result, subst, sym, take, ℕ, ⊎_elim, IfOk, AllocError, IsInDomain, IsPairOf, pair, Relates, IsComposition, IsDisplay, IsOverriding, IsMember, HaveSameMembers, AreRelated, IsPartOf, IsSelected, AddsPairs, IsGathered, Others, First, Whole, Value, Outcome, Out}
use Rattle.zf_value.proofs.Among.{members-append, members-push, members-take_more, take_all, every_also, before_in}
use Rattle.zf_value.proofs.Gathered.{same_pair, gathered_more, gathered_pass}
use Rattle.zf_value.proofs.Listed.{IsMade, in_domain, by_first}
use Rattle.zf_value.proofs.Making.{made, made_gathered}

-- ---- the pairs of one value

pub adds_none : (x : Value) (old : List Value) → AddsPairs x [] old old
unfolding AddsPairs
adds_none x old w = (λ m. inl m, λ m. ⊎_elim (λ a. a) (λ p. absurd p.2) m)

pub adds_pass : (x : Value) (ps : List Value) (i : ℕ) (z : Value) (old new : List Value) → z ≡ get_or ps i z → i < length ps
    → ((u y : Value) → z ≡ pair u y → ⊥) → AddsPairs x (take i ps) old new → AddsPairs x (take (i + 1) ps) old new
unfolding AddsPairs
adds_pass x ps i z old new e l n h w =
    rw add-one (
      λ m. ⊎_elim (λ a. inl a) (λ p. inr (p.0, p.1, (members-take_more ps i z e l (pair p.0 p.1)).1 (inl p.2), p.3)) ((h w).0 m),
      λ m. ⊎_elim (λ a. (h w).1 (inl a)) (λ p. ⊎_elim (λ k. (h w).1 (inr (p.0, p.1, k, p.3))) (λ s. absurd (n p.0 p.1 s)) ((members-take_more ps i z e l (pair p.0 p.1)).0 p.2)) m,
    )

pub adds_push : (x : Value) (ps : List Value) (i : ℕ) (z u y v : Value) (old between new : List Value) → z ≡ get_or ps i z → i < length ps → z ≡ pair u y
    → v ≡ pair x y → new ≡ between ++ v ∷ [] → AddsPairs x (take i ps) old between → AddsPairs x (take (i + 1) ps) old new
unfolding AddsPairs
adds_push x ps i z u y v old between new e l s t n h w =
    let both = members-push between v w in
    rw add-one (
      λ m.
          ⊎_elim (λ a. ⊎_elim (λ b. inl b) (λ p. inr (p.0, p.1, (members-take_more ps i z e l (pair p.0 p.1)).1 (inl p.2), p.3)) ((h w).0 a))
          (λ k. inr (u, y, (members-take_more ps i z e l (pair u y)).1 (inr s), sym k ∙ t)) (both.0 (subst (IsMember w) n m)),
      λ m. subst (IsMember w) (sym n) (both.1 (
          ⊎_elim (λ a. inl ((h w).1 (inl a))) (λ p. ⊎_elim (λ k. inl ((h w).1 (inr (p.0, p.1, k, p.3))))
          (λ k. inr (t ∙ ap (pair x) (same_pair u y p.0 p.1 (sym s ∙ k)).1 ∙ sym p.3)) ((members-take_more ps i z e l (pair p.0 p.1)).0 p.2)) m)),
    )

pub adds_all : (x : Value) (ps : List Value) (i : ℕ) (old new : List Value) → length ps ≤ i → AddsPairs x (take i ps) old new → AddsPairs x ps old new
adds_all x ps i old new l h = subst (λ ys. AddsPairs x ys old new) (take_all i ps l) h

-- ---- composition

-- what a pair z gives with those of q
abbrev pub Composes : List Value → Value → Value → Type 0
Composes q z w = (x y v : Value) × (z ≡ pair x y) × Relates q y v × (w ≡ pair x v)

pub composed_more : (q r : List Value) (i : ℕ) (z x y : Value) (ps old new : List Value) → z ≡ get_or r i z → i < length r → z ≡ pair x y → AreRelated q y ps
    → AddsPairs x ps old new → IsGathered (Composes q) (take i r) old → IsGathered (Composes q) (take (i + 1) r) new
unfolding AddsPairs
composed_more q r i z x y ps old new e l s h a g =
    gathered_more (Composes q) r i z old new e l g (λ w. (
      λ m. ⊎_elim (λ k. inl k) (λ p. inr (x, y, p.1, s, (h.same p.1).0 (subst (λ u. IsMember (pair u p.1) ps) (h.first p.0 p.1 p.2) p.2), p.3)) ((a w).0 m),
      λ m. (a w).1 (⊎_elim (λ k. inl k) (λ c.
          let same = same_pair x y c.0 c.1 (sym s ∙ c.3) in
          inr (y, c.2, (h.same c.2).1 (subst (λ u. Relates q u c.2) (sym same.1) c.4), c.5 ∙ ap (λ u. pair u c.2) (sym same.0))) m),
    ))

pub composed_pass : (q r : List Value) (i : ℕ) (z : Value) (out : List Value) → z ≡ get_or r i z → i < length r → ((x y : Value) → z ≡ pair x y → ⊥)
    → IsGathered (Composes q) (take i r) out → IsGathered (Composes q) (take (i + 1) r) out
composed_pass q r i z out e l n g = gathered_pass (Composes q) r i z out e l g (λ w c. n c.0 c.1 c.3)

abbrev IsComposed : List Value → List Value → Value → Type 0
IsComposed r q w = (x y v : Value) × (w ≡ pair x v) × Relates r x y × Relates q y v

composed : (q r : List Value) (w : Value) → ((z : Value) × IsMember z r × Composes q z w) ↔ IsComposed r q w
composed q r w =
    (λ s. (s.2.0, s.2.1, s.2.2, s.2.5, subst (λ u. IsMember u r) s.2.3 s.1, s.2.4), λ p. (pair p.0 p.1, p.4, (p.0, p.1, p.2, refl, p.5, p.3)))

pub composition_made : (r q all : List Value) (o : Result Outcome AllocError) → IsGathered (Composes q) r all → IfOk o (IsDisplay all) → IsMade (IsComposition r q) o
unfolding IsComposition
composition_made r q all o g d = made_gathered (Composes q) (IsComposed r q) r all o g (composed q r) d

-- more than a set may have, before the end
pub composition_out : (r q all : List Value) (i : ℕ) → IsGathered (Composes q) (take i r) all → IsDisplay all Out → IsComposition r q Out
unfolding IsComposition IsGathered IsDisplay
composition_out r q all i g d = (d.0, d.1, d.2, every_also (λ z. IsMember z all) (IsComposed r q) d.0 (λ w m. let s = (g w).0 m in (composed q r w).0 (s.0, before_in r i s.0 s.1, s.2)) d.3)

-- ---- overriding

pub overriding_made : (r q firsts ordered kept all : List Value) (o : Result Outcome AllocError) → IsGathered (IsPartOf First) q firsts
    → HaveSameMembers firsts ordered → IsGathered (IsSelected First Others ordered Whole) r kept → all ≡ kept ++ q → IfOk o (IsDisplay all)
    → IsMade (IsOverriding r q) o
unfolding IsOverriding IsGathered HaveSameMembers
overriding_made r q firsts ordered kept all o f s g e d =
    let in_firsts : (x : Value) → IsMember x ordered ↔ IsInDomain q x = λ x. (λ m. (in_domain q x).0 ((f x).0 ((s x).1 m)), λ p. (s x).0 ((f x).1 ((in_domain q x).1 p))) in
    let P : Value → Type 0 = λ w. IsMember w q ⊎ IsPairOf r (λ x y. IsInDomain q x → ⊥) w in
    let lists : (w : Value) → IsMember w all ↔ P w = λ w.
    let both = members-append kept q w in (
      λ m. ⊎_elim (λ a. let p = (by_first Others ordered r w).0 ((g w).0 a) in inr (p.0, p.1, p.2, p.3, λ i. p.4 ((in_firsts p.0).1 i))) (λ b. inl b) (both.0 (subst (IsMember w) e m)),
      λ m. subst (IsMember w) (sym e) (both.1 (⊎_elim (λ b. inr b) (λ p. inl ((g w).1 ((by_first Others ordered r w).1 (p.0, p.1, p.2, p.3, λ i. p.4 ((in_firsts p.0).0 i))))) m)),
    ) in
    made P all o lists d
