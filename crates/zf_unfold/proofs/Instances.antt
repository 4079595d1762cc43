-- What a universal quantifier says of a member is what its instance says.
use Rattle.zf_unfold.proofs.Prelude.{◌↔◌, Reference, ◌∙◌, ◌∷◌, ◌≡◌, ◌≤◌, [], ap, inr, List, None, refl, Some, subst, suc, sym, zero, ℕ, ⊎_elim, slice_get, Truth, Value, absent, no_ranges, present, quantified, range, Ranges, ResolvedPart, ResolvedTree, Context, Environment, within, HasOutcome, HaveRanges, IsConstraint, IsTruth, one_out, one_undefined, repeated, Several, values, IsForAll, IsQuantified, IsTold, at, AreSameRanges, IsSame, IsSamePart, IsBase, named, part_renamed, ranges_renamed, renamed, ForAll, Is, True, False, Out, AreFrom, IsDisjunction, opposite, implied, instance, others, over, Span}
use Rattle.zf_meaning.proofs.Unique.{one_outcome}
use Rattle.zf_lift.proofs.Mapped as mapped
use Rattle.zf_unfold.proofs.Agreeing.{part_same, ranges_same, same_renamed}
use Rattle.zf_unfold.proofs.Names.{agree_inside, agree_outside}
use Rattle.zf_unfold.proofs.Every.{behind, says_behind}

-- what a quantifier says of a row
abbrev pub Told : Context → ResolvedPart → ResolvedTree → List Value → Truth → Type 0
Told c p t vs w = IsTold ForAll (λ a. IsConstraint (within c vs) p a) (λ b. IsTruth (within c vs) t b) w

-- ---- over no variables

without_there : (R : Truth → Type 0) (u : Truth) → R u → IsDisjunction (λ p. opposite p ≡ True) R u
without_there R True h = inr h
without_there R False h = (refl, h)
without_there R Out h = inr (refl, h)

without_back : (R : Truth → Type 0) (u : Truth) → IsDisjunction (λ p. opposite p ≡ True) R u → R u
without_back R True h = ⊎_elim (λ e. absurd (cc)) (λ r. r) h
without_back R False h = h.1
without_back R Out h = ⊎_elim (λ e. let f = e.0 in absurd (cc)) (λ r. r.1) h

implied_same : (c : Context) (l : Span) (p : ResolvedPart) (t : ResolvedTree) (u : Truth)
    → IsTruth c (implied l p t) u ↔ IsTold ForAll (λ a. IsConstraint c p a) (λ b. IsTruth c t b) u
implied_same c l absent t u = (without_there (λ b. IsTruth c t b) u, without_back (λ b. IsTruth c t b) u)
implied_same c l (present p) t u = (λ h. h, λ h. h)

abbrev NoRow : List Value → Type 0
NoRow vs = AreFrom vs []

is_no_row : (P : List Value → Type 0) (vs : List Value) → NoRow vs → P [] → P vs
is_no_row P [] r h = h
is_no_row P (v ∷ vs) r h = absurd r

the_row : (P : List Value → Type 0) (vs : List Value) → NoRow vs → P vs → P []
the_row P [] r h = h
the_row P (v ∷ vs) r h = absurd r

single_there : (P : List Value → Truth → Type 0) (u : Truth) → P [] u → IsForAll NoRow P u
single_there P True h = λ vs r. is_no_row (λ ws. P ws True) vs r h
single_there P False h = ([], tt, h)
single_there P Out h = (([], tt, h), λ vs r. inr (is_no_row (λ ws. P ws Out) vs r h))

single_back : (P : List Value → Truth → Type 0) (u : Truth) → IsForAll NoRow P u → P [] u
single_back P True h = h [] tt
single_back P False h = the_row (λ ws. P ws False) h.0 h.1 h.2
single_back P Out h = the_row (λ ws. P ws Out) h.0.0 h.0.1 h.0.2

-- ---- over ranges

pub one_ranges : (c : Context) (rs : Ranges) (s r : Several) → HaveRanges c rs s → HaveRanges c rs r → r ≡ s
one_ranges c no_ranges s r h k = k ∙ sym h
one_ranges c (range n t rs) s r h k =
    let x : k.0 ≡ h.0 = one_outcome c t k.0 h.0 k.2 h.2 in
    let y : k.1 ≡ h.1 = one_ranges c rs h.1 k.1 h.3 k.3 in
    k.4 ∙ ap (λ o. repeated n o k.1) x ∙ ap (λ q. repeated n h.0 q) y ∙ sym h.4

over_same : (g : Environment) (row : List Value) (l : Span) (rs : Ranges) (p : ResolvedPart) (t : ResolvedTree) (s : Several) → HaveRanges (at g row []) rs s → (u : Truth)
    → IsTruth (at g row []) (over l rs p t) u ↔ IsQuantified ForAll s (Told (at g row []) p t) u
over_same g row l no_ranges p t s h u =
    let P = Told (at g row []) p t in
    let same = implied_same (at g row []) l p t u in (
      λ k. subst (λ r. IsQuantified ForAll r P u) (sym h) (single_there P u (same.0 k)),
      λ k. same.1 (single_back P u (subst (λ r. IsQuantified ForAll r P u) h k)),
    )
over_same g row l (range n x rs) p t s h u = (
  λ k. subst (λ r. IsQuantified ForAll r (Told (at g row []) p t) u) (one_ranges (at g row []) (range n x rs) s k.0 h k.1) k.2,
  λ k. (s, h, k),
)

-- ---- the first variable

none_repeated : (s : Value) (r : Several) → repeated 0 (Is s) r ≡ r
none_repeated s (values ws) = refl
none_repeated s one_undefined = refl
none_repeated s one_out = refl

module _ (n : ℕ) (e g : Environment) (b : IsBase n e g) (row : List Value) where
  outside : (t : ResolvedTree) → IsSame (at g row []) (renamed (named n None) t) (at e row []) t
  outside t = same_renamed (named n None) g e row [] (agree_outside n e g b row) [] t

  ranges_outside : (rs : Ranges) → AreSameRanges (at g row []) (ranges_renamed (named n None) rs) (at e row []) rs
  ranges_outside rs = ranges_same (named n None) g e row [] (agree_outside n e g b row) [] rs

  -- so many variables less
  have_others : (k : ℕ) (t : ResolvedTree) (rs : Ranges) (s : Value) (r : Several) → HasOutcome (at e row []) t (Is s) → HaveRanges (at e row []) rs r
      → HaveRanges (at g row []) (others (ranges_renamed (named n None) (range (suc k) t rs))) (repeated k (Is s) r)
  have_others zero t rs s r h i =
      subst (λ q. HaveRanges (at g row []) (ranges_renamed (named n None) rs) q) (sym (none_repeated s r)) ((ranges_outside rs r).1 i)
  have_others (suc k) t rs s r h i = (Is s, r, ((outside t).outcome (Is s)).1 h, (ranges_outside rs r).1 i, refl)

  module _ (m : ℕ) (v : Value) (is : slice_get g.outcomes m ≡ Some (Is v)) (behind_all : n ≤ m) (p : ResolvedPart) (t : ResolvedTree) where
    abbrev f : Reference → Reference
    f = named n (Some m)

    part_inside : (vs : List Value) → IsSamePart (at g row vs) (part_renamed f p) (at e row (v ∷ vs)) p
    part_inside vs = part_same f g e row (v ∷ []) (agree_inside n e g b row m v is behind_all) vs p

    body_inside : (vs : List Value) → IsSame (at g row vs) (renamed f t) (at e row (v ∷ vs)) t
    body_inside vs = same_renamed f g e row (v ∷ []) (agree_inside n e g b row m v is behind_all) vs t

    told_there : (vs : List Value) (w : Truth) → Told (at g row []) (part_renamed f p) (renamed f t) vs w → Told (at e row []) p t (v ∷ vs) w
    told_there vs w h =
        mapped.told ForAll (IsConstraint (at g row vs) (part_renamed f p)) (IsTruth (at g row vs) (renamed f t)) (IsConstraint (at e row (v ∷ vs)) p) (IsTruth (at e row (v ∷ vs)) t)
        (λ a. ((part_inside vs).constraint a).0) (λ a. ((body_inside vs).truth a).0) w h

    told_back : (vs : List Value) (w : Truth) → Told (at e row []) p t (v ∷ vs) w → Told (at g row []) (part_renamed f p) (renamed f t) vs w
    told_back vs w h =
        mapped.told ForAll (IsConstraint (at e row (v ∷ vs)) p) (IsTruth (at e row (v ∷ vs)) t) (IsConstraint (at g row vs) (part_renamed f p)) (IsTruth (at g row vs) (renamed f t))
        (λ a. ((part_inside vs).constraint a).1) (λ a. ((body_inside vs).truth a).1) w h

    -- the instance says what the quantifier says of the member
    pub instance_same : (l : Span) (k : ℕ) (s : Value) (x : ResolvedTree) (rs : Ranges) (r : Several) → HasOutcome (at e row []) x (Is s) → HaveRanges (at e row []) rs r → (u : Truth)
        → IsTruth (at g row []) (instance n m l (range (suc k) x rs) p t) u ↔ says_behind (Told (at e row []) p t) k s r v u
    instance_same l k s x rs r h i u =
        let q = repeated k (Is s) r in
        let here = Told (at g row []) (part_renamed f p) (renamed f t) in
        let there = behind (Told (at e row []) p t) v in
        let same = over_same g row l (others (ranges_renamed (named n None) (range (suc k) x rs))) (part_renamed f p) (renamed f t) q (have_others k x rs s r h i) u in (
          λ y. mapped.quantified ForAll q here there (λ vs w z. told_there vs w) (λ vs w z. told_back vs w) u (same.0 y),
          λ y. same.1 (mapped.quantified ForAll q there here (λ vs w z. told_back vs w) (λ vs w z. told_there vs w) u y),
        )
