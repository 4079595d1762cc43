-- What is written out says what the predicate says, form by form.
use Rattle.zf_unfold.proofs.Prelude.{◌↔◌, ◌∷◌, ◌≡◌, ◌≤◌, [], arith, inl, length, List, None, refl, subst, suc, sym, ℕ, Truth, Value, binary, bracket, quantified, range, Ranges, ResolvedPart, ResolvedTree, unary, Environment, in_row, HasOutcome, HaveRanges, IsTruth, repeated, Several, IsQuantified, IsLifted, IsLonger, at, IsBase, IsUnfolded, named, renamed, Connective, Not, And, ForAll, Is, IsMember, members, opposite, AreNamed, instance, instances, Span}
use Rattle.zf_tree.specs.declared.symbol.Connective as connective
use Rattle.zf_lift.proofs.Longer as longer_ones
use Rattle.zf_lift.proofs.Mapped as mapped
use Rattle.zf_lift.proofs.Needs.{uses_no_more}
use Rattle.law_total.proofs.Terms.{some_truth}
use Rattle.zf_unfold.proofs.Agreeing.{same_renamed}
use Rattle.zf_unfold.proofs.Every.{every_both, every_one, IsEvery, quantified_first, says_behind}
use Rattle.zf_unfold.proofs.Instances.{instance_same, one_ranges, Told}
use Rattle.zf_unfold.proofs.Names.{agree_outside, base_later, outcome_later}
use Rattle.zf_unfold.proofs.Needs.{need_instances, need_renamed, no_further}

pub named_later : (f g : Environment) (m : ℕ) (vs : List Value) → IsLonger f g → AreNamed f.outcomes m vs → AreNamed g.outcomes m vs
named_later f g m [] h k = tt
named_later f g m (v ∷ vs) h k = (outcome_later f g m (Is v) h k.0, named_later f g (suc m) vs h k.1)

-- ---- quantifiers

module _ (n : ℕ) (e g : Environment) (b : IsBase n e g) (row : List Value) (l : Span) (k : ℕ) (s : Value) (x : ResolvedTree) (rs : Ranges) (p : ResolvedPart) (t : ResolvedTree) where
  abbrev ds : Ranges
  ds = range (suc k) x rs

  module _ (r : Several) (h : HasOutcome (at e row []) x (Is s)) (i : HaveRanges (at e row []) rs r) where
    abbrev says : Value → Truth → Type 0
    says = says_behind (Told (at e row []) p t) k s r

    instances_every : (v : Value) (vs : List Value) (m : ℕ) → n ≤ m → AreNamed g.outcomes m (v ∷ vs) → (u : Truth)
        → IsTruth (at g row []) (instances n m (length vs) l ds p t) u ↔ IsEvery (v ∷ vs) says u
    instances_every v [] m y z u =
        let one = instance_same n e g b row m v z.0 y p t l k s x rs r h i u in let all = every_one says v u in
        (λ w. all.0 (one.0 w), λ w. one.1 (all.1 w))
    instances_every v (w ∷ vs) m y z u =
        let here = IsTruth (at g row []) (instance n m l ds p t) in
        let behind = IsTruth (at g row []) (instances n (suc m) (length vs) l ds p t) in
        let first : (a : Truth) → here a ↔ IsEvery (v ∷ []) says a = λ a. let one = instance_same n e g b row m v z.0 y p t l k s x rs r h i a in
        let all = every_one says v a in (λ q. all.0 (one.0 q), λ q. one.1 (all.1 q)) in
        let rest : (a : Truth) → behind a ↔ IsEvery (w ∷ vs) says a = instances_every w vs (suc m) (omega (arith, y)) z.1 in
        let both = every_both says (v ∷ []) (w ∷ vs) u in (
          λ q. both.0 (mapped.connected And here behind (IsEvery (v ∷ []) says) (IsEvery (w ∷ vs) says) (λ a. (first a).0) (λ a. (rest a).0) u q),
          λ q. mapped.connected And (IsEvery (v ∷ []) says) (IsEvery (w ∷ vs) says) here behind (λ a. (first a).1) (λ a. (rest a).1) u (both.1 q),
        )

    have_all : HaveRanges (at e row []) ds (repeated (suc k) (Is s) r)
    have_all = (Is s, r, h, i, refl)

    quantified_same : (v : Value) (vs : List Value) → members s ≡ v ∷ vs → (m : ℕ) → n ≤ m → AreNamed g.outcomes m (v ∷ vs) → (u : Truth)
        → IsTruth (at g row []) (instances n m (length vs) l ds p t) u ↔ IsTruth (at e row []) (quantified l ForAll ds p t) u
    quantified_same v vs are m y z u =
        let P = Told (at e row []) p t in
        let all = repeated (suc k) (Is s) r in
        let every = instances_every v vs m y z u in
        let whole = quantified_first P s k r (v, subst (λ xs. IsMember v xs) (sym are) (inl refl)) u in (
          λ q. (all, have_all, whole.0 (subst (λ xs. IsEvery xs says u) (sym are) (every.0 q))),
          λ q. every.1 (subst (λ xs. IsEvery xs says u) are (whole.1 (subst (λ w. IsQuantified ForAll w P u) (one_ranges (at e row []) ds all q.0 have_all q.1) q.2))),
        )

  pub written_out : HasOutcome (at e row []) x (Is s) → (v : Value) (vs : List Value) → members s ≡ v ∷ vs → (m : ℕ) → n ≤ m → AreNamed g.outcomes m (v ∷ vs) → (u : Truth)
      → IsTruth (at g row []) (instances n m (length vs) l ds p t) u ↔ IsTruth (at e row []) (quantified l ForAll ds p t) u
  written_out h v vs are m y z u =
      let some = (some_truth (at e row []) (quantified l ForAll ds p t)).1 in
      quantified_same some.1.1 h some.1.3 v vs are m y z u

pub unfold_quantified : (n : ℕ) (e f : Environment) (l : Span) (k : ℕ) (s : Value) (x : ResolvedTree) (rs : Ranges) (p : ResolvedPart) (t : ResolvedTree)
    → IsBase n e f → ((row : List Value) → HasOutcome (at e row []) x (Is s)) → (v : Value) (vs : List Value) → members s ≡ v ∷ vs → (m : ℕ) → n ≤ m → AreNamed f.outcomes m (v ∷ vs)
    → IsUnfolded f e (instances n m (length vs) l (range (suc k) x rs) p t) (quantified l ForAll (range (suc k) x rs) p t)
unfolding IsUnfolded
unfold_quantified n e f l k s x rs p t b h v vs are m y z = record {
  needs = need_instances n m (length vs) l (range (suc k) x rs) p t;
  same = λ g i row a. written_out n e g (base_later n e f g b i) row l k s x rs p t (h row) v vs are m y (named_later f g m (v ∷ vs) i z) a;
}

-- ---- other forms

pub unfold_later : (f g e : Environment) (t u : ResolvedTree) → IsLonger f g → IsUnfolded f e t u → IsUnfolded g e t u
unfolding IsUnfolded
unfold_later f g e t u h k = record { needs = k.needs; same = λ i j. k.same i (longer_ones.further f g i h j) }

-- one after another
pub unfold_further : (e f g : Environment) (t u w : ResolvedTree) → IsLonger f g → IsUnfolded g f w u → IsUnfolded f e u t → IsUnfolded g e w t
unfolding IsUnfolded
unfold_further e f g t u w h j k = record {
  needs = omega (arith, j.needs, k.needs);
  same = λ i y row a. let one = j.same i y row a in let two = k.same f (longer_ones.itself f) row a in (λ q. two.0 (one.0 q), λ q. one.1 (two.1 q));
}

pub unfold_outside : (n : ℕ) (e f : Environment) (t : ResolvedTree) → IsBase n e f → IsUnfolded f e (renamed (named n None) t) t
unfolding IsUnfolded
unfold_outside n e f t b = record {
  needs = need_renamed (named n None) (no_further n None) t;
  same = λ g i row a. (same_renamed (named n None) g e row [] (agree_outside n e g (base_later n e f g b i) row) [] t).truth a;
}

pub unfold_bracket : (f e : Environment) (l : Span) (t u : ResolvedTree) → IsUnfolded f e t u → IsUnfolded f e t (bracket l u)
unfolding IsUnfolded
unfold_bracket f e l t u h = record { needs = h.needs; same = h.same }

pub unfold_not : (f e : Environment) (l : Span) (t u : ResolvedTree) → IsUnfolded f e t u → IsUnfolded f e (unary l Not t) (unary l Not u)
unfolding IsUnfolded
unfold_not f e l t u h = record { needs = h.needs; same = λ g i row a. h.same g i row (opposite a) }

pub unfold_connected : (f e : Environment) (l : Span) (k : connective.Connective) (t u v w : ResolvedTree) → IsUnfolded f e t v → IsUnfolded f e u w
    → IsUnfolded f e (binary l (Connective k) t u) (binary l (Connective k) v w)
unfolding IsUnfolded
unfold_connected f e l k t u v w h j = record {
  needs = omega (arith, h.needs, j.needs);
  same = λ g i row a. (
    mapped.connected k (IsTruth (in_row g row) t) (IsTruth (in_row g row) u) (IsTruth (in_row e row) v) (IsTruth (in_row e row) w)
        (λ b. (h.same g i row b).0) (λ b. (j.same g i row b).0) a,
    mapped.connected k (IsTruth (in_row e row) v) (IsTruth (in_row e row) w) (IsTruth (in_row g row) t) (IsTruth (in_row g row) u)
        (λ b. (h.same g i row b).1) (λ b. (j.same g i row b).1) a,
  );
}

pub is_unfolded : (f e : Environment) (t u : ResolvedTree) → IsUnfolded f e t u → IsLifted f e t u
unfolding IsUnfolded
is_unfolded f e t u h = record {
  same = λ row a. h.same f (longer_ones.itself f) row a;
  uses = uses_no_more t u h.needs;
}
