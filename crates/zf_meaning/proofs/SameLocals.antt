-- A term means the same where the bound variables that it names have the same values.
use Rattle.zf_meaning.proofs.Prelude.{◌++◌, ◌+◌, ◌<◌, ◌∷◌, ◌≡◌, ◌≤◌, ◌⊎◌, [], ap, arith, cond, inl, inr, length, List, refl, subst, suc, take, zero, ℕ, ⊎_elim, nat_tests, nat_lt, slice_get, Reference, Component, Global, Local, Outcome, Truth, Value, absent, binary, bracket, comprehension, chain, constant, empty_set, link, listed, no_links, no_ranges, no_terms, number, present, quantified, range, Ranges, reference, ResolvedLinks, ResolvedPart, ResolvedTree, ResolvedTrees, term, unary, Context, outcome_in, value_or, within, AreLinked, Builds, HasOutcome, HaveOutcomes, HaveRanges, infinite_right, IsBuilt, IsConstraint, IsLink, IsTruth, all_need, links_need, need, part_need, place_below, ranges_need, OnBoth, one_more, OnOne, OnSeveral, repeated, Several, BinaryOutcome, ListedOutcome, UnaryOutcome, IsConjunction, IsConnected, IsQuantified, IsTold, opposite, Quantifier}
use Rattle.zf_tree.specs.declared.operator.Operator.TheVariants as operator
use Rattle.zf_tree.specs.declared.operator.Unary.TheVariants as the_unary

-- the same context with other bound variables
abbrev with_locals : Context → List Value → Context
with_locals c ls = record { environment = c.environment; row = c.row; locals = ls }

-- as many values, and the same before place n and from place m on
record AreAlike (n m : ℕ) (ls ks : List Value) : Type 0 where
  lengths : length ls ≡ length ks
  each : (i : ℕ) → (i < n) ⊎ (m ≤ i) → slice_get ls i ≡ slice_get ks i

-- ---- more variables inside

same_at : (ls ks ws : List Value) (i : ℕ) → length ls ≡ length ks → slice_get ls i ≡ slice_get ks i → slice_get (ls ++ ws) i ≡ slice_get (ks ++ ws) i
same_at [] [] ws i l h = refl
same_at [] (k ∷ ks) ws i l h = absurd (omega (arith, l))
same_at (x ∷ ls) [] ws i l h = absurd (omega (arith, l))
same_at (x ∷ ls) (k ∷ ks) ws zero l h = h
same_at (x ∷ ls) (k ∷ ks) ws (suc i) l h = same_at ls ks ws i (omega (arith, l)) h

same_length : (ls ks ws : List Value) → length ls ≡ length ks → length (ls ++ ws) ≡ length (ks ++ ws)
same_length [] [] ws l = refl
same_length [] (k ∷ ks) ws l = absurd (omega (arith, l))
same_length (x ∷ ls) [] ws l = absurd (omega (arith, l))
same_length (x ∷ ls) (k ∷ ks) ws l = ap suc (same_length ls ks ws (omega (arith, l)))

inside : (n m : ℕ) (ls ks ws : List Value) → AreAlike n m ls ks → AreAlike n m (ls ++ ws) (ks ++ ws)
inside n m ls ks ws h = record { lengths = same_length ls ks ws h.lengths; each = λ i k. same_at ls ks ws i h.lengths (h.each i k) }

-- ---- names

where_named : (n m i : ℕ) → cond (nat_lt i m) (i + 1) 0 ≤ n → (i < n) ⊎ (m ≤ i)
where_named n m i h = grind (arith, nat_tests)

same_name : (c : Context) (ls : List Value) (n m : ℕ) (r : Reference) → AreAlike n m c.locals ls → place_below m r ≤ n → outcome_in c r ≡ outcome_in (with_locals c ls) r
same_name c ls n m (Component i) a h = refl
same_name c ls n m (Local i) a h = ap value_or (a.each i (where_named n m i h))
same_name c ls n m (Global i) a h = refl

-- ---- terms

mutual
  same_outcome : (c : Context) (ls : List Value) (n m : ℕ) (t : ResolvedTree) → AreAlike n m c.locals ls → need m t ≤ n → (o : Outcome) → HasOutcome c t o ≡ HasOutcome (with_locals c ls) t o
  same_outcome c ls n m (reference l r) a h o = λ i. o ≡ same_name c ls n m r a h i
  same_outcome c ls n m (number l x) a h o = refl
  same_outcome c ls n m (constant l x) a h o = refl
  same_outcome c ls n m (empty_set l t) a h o = refl
  same_outcome c ls n m (bracket l t) a h o = same_outcome c ls n m t a h o
  same_outcome c ls n m (listed l form ts) a h o = λ i. (s : Several) × same_outcomes c ls n m ts a h s i × OnSeveral s (ListedOutcome form) o
  same_outcome c ls n m (comprehension l ds f t) a h o =
      λ i. (s : Several) × same_ranges c ls n m ds a (omega (arith, h)) s i
      × IsBuilt s (λ ws u. same_constraint (within c ws) (ls ++ ws) n m f (inside n m c.locals ls ws a) (omega (arith, h)) u i)
      (λ ws x. same_build (within c ws) (ls ++ ws) ws n m t (inside n m c.locals ls ws a) (omega (arith, h)) x i) o
  same_outcome c ls n m (unary l op t) a h o = λ i. (x : Outcome) × same_outcome c ls n m t a h x i × OnOne x (UnaryOutcome op) o
  same_outcome c ls n m (binary l op x y) a h o =
      λ i. (v w : Outcome) × same_outcome c ls n m x a (omega (arith, h)) v i × same_outcome c ls n m y a (omega (arith, h)) w i × OnBoth v w (BinaryOutcome op) o
  same_outcome c ls n m (chain l t ks) a h o = refl
  same_outcome c ls n m (quantified l q ds f t) a h o = refl

  same_outcomes : (c : Context) (ls : List Value) (n m : ℕ) (ts : ResolvedTrees) → AreAlike n m c.locals ls → all_need m ts ≤ n → (s : Several)
      → HaveOutcomes c ts s ≡ HaveOutcomes (with_locals c ls) ts s
  same_outcomes c ls n m no_terms a h s = refl
  same_outcomes c ls n m (term t ts) a h s =
      λ i. (x : Outcome) × (r : Several) × same_outcome c ls n m t a (omega (arith, h)) x i × same_outcomes c ls n m ts a (omega (arith, h)) r i × (s ≡ one_more x r)

  same_ranges : (c : Context) (ls : List Value) (n m : ℕ) (ds : Ranges) → AreAlike n m c.locals ls → ranges_need m ds ≤ n → (s : Several) → HaveRanges c ds s ≡ HaveRanges (with_locals c ls) ds s
  same_ranges c ls n m no_ranges a h s = refl
  same_ranges c ls n m (range k t ds) a h s =
      λ i. (x : Outcome) × (r : Several) × same_outcome c ls n m t a (omega (arith, h)) x i × same_ranges c ls n m ds a (omega (arith, h)) r i × (s ≡ repeated k x r)

  same_build : (c : Context) (ls ws : List Value) (n m : ℕ) (t : ResolvedPart) → AreAlike n m c.locals ls → part_need m t ≤ n → (o : Outcome) → Builds c ws t o ≡ Builds (with_locals c ls) ws t o
  same_build c ls ws n m absent a h o = refl
  same_build c ls ws n m (present t) a h o = same_outcome c ls n m t a h o

  same_constraint : (c : Context) (ls : List Value) (n m : ℕ) (t : ResolvedPart) → AreAlike n m c.locals ls → part_need m t ≤ n → (u : Truth) → IsConstraint c t u ≡ IsConstraint (with_locals c ls) t u
  same_constraint c ls n m absent a h u = refl
  same_constraint c ls n m (present t) a h u = same_truth c ls n m t a h u

  same_truth : (c : Context) (ls : List Value) (n m : ℕ) (t : ResolvedTree) → AreAlike n m c.locals ls → need m t ≤ n → (u : Truth) → IsTruth c t u ≡ IsTruth (with_locals c ls) t u
  same_truth c ls n m (constant l x) a h u = refl
  same_truth c ls n m (bracket l t) a h u = same_truth c ls n m t a h u
  same_truth c ls n m (unary l the_unary.Not t) a h u = same_truth c ls n m t a h (opposite u)
  same_truth c ls n m (unary l (the_unary.Sign s) t) a h u = refl
  same_truth c ls n m (unary l the_unary.Inverse t) a h u = refl
  same_truth c ls n m (binary l (operator.Connective x) v w) a h u =
      λ i. IsConnected x (λ p. same_truth c ls n m v a (omega (arith, h)) p i) (λ q. same_truth c ls n m w a (omega (arith, h)) q i) u
  same_truth c ls n m (binary l (operator.Function x) v w) a h u = refl
  same_truth c ls n m (binary l (operator.Generic x) v w) a h u = refl
  same_truth c ls n m (binary l operator.Application v w) a h u = refl
  same_truth c ls n m (binary l operator.Image v w) a h u = refl
  same_truth c ls n m (chain l t ks) a h u =
      λ i. (x : Outcome) × same_outcome c ls n m t a (omega (arith, h)) x i × same_links c ls n m x ks a (omega (arith, h)) u i
  same_truth c ls n m (quantified l q ds f t) a h u =
      λ i. (s : Several) × same_ranges c ls n m ds a (omega (arith, h)) s i
      × IsQuantified q s (λ ws w. IsTold q (λ p. same_constraint (within c ws) (ls ++ ws) n m f (inside n m c.locals ls ws a) (omega (arith, h)) p i)
      (λ b. same_truth (within c ws) (ls ++ ws) n m t (inside n m c.locals ls ws a) (omega (arith, h)) b i) w) u
  same_truth c ls n m (reference l r) a h u = refl
  same_truth c ls n m (number l x) a h u = refl
  same_truth c ls n m (empty_set l t) a h u = refl
  same_truth c ls n m (listed l form ts) a h u = refl
  same_truth c ls n m (comprehension l ds f t) a h u = refl

  same_links : (c : Context) (ls : List Value) (n m : ℕ) (x : Outcome) (ks : ResolvedLinks) → AreAlike n m c.locals ls → links_need m ks ≤ n → (u : Truth)
      → AreLinked c x ks u ≡ AreLinked (with_locals c ls) x ks u
  same_links c ls n m x no_links a h u = refl
  same_links c ls n m x (link r t ks) a h u =
      λ i. (y : Outcome) × same_outcome c ls n m t a (omega (arith, h)) y i × IsConjunction (λ p. IsLink (infinite_right c r t) r x y p) (λ q. same_links c ls n m y ks a (omega (arith, h)) q i) u

-- ---- rows that begin with the same values

same_front : (front : ℕ) (us vs : List Value) (i : ℕ) → length us ≡ length vs → take front us ≡ take front vs → (i < front) ⊎ (length vs ≤ i) → slice_get us i ≡ slice_get vs i
same_front front [] [] i l e k = refl
same_front front [] (v ∷ vs) i l e k = absurd (omega (arith, l))
same_front front (u ∷ us) [] i l e k = absurd (omega (arith, l))
same_front zero (u ∷ us) (v ∷ vs) zero l e k = ⊎_elim (λ h. absurd (omega (arith, h))) (λ h. absurd (omega (arith, h))) k
same_front zero (u ∷ us) (v ∷ vs) (suc i) l e k = same_front zero us vs i (omega (arith, l)) refl (⊎_elim (λ h. absurd (omega (arith, h))) (λ h. inr (omega (arith, h))) k)
same_front (suc front) (u ∷ us) (v ∷ vs) zero l e k = (cc)
same_front (suc front) (u ∷ us) (v ∷ vs) (suc i) l e k = same_front front us vs i (omega (arith, l)) (cc) (⊎_elim (λ h. inl (omega (arith, h))) (λ h. inr (omega (arith, h))) k)

behind : (ls : List Value) (front : ℕ) (us vs : List Value) (i : ℕ) → length us ≡ length vs → take front us ≡ take front vs
    → (i < length ls + front) ⊎ (length ls + length vs ≤ i) → slice_get (ls ++ us) i ≡ slice_get (ls ++ vs) i
behind [] front us vs i l e k = same_front front us vs i l e (⊎_elim (λ h. inl (omega (arith, h))) (λ h. inr (omega (arith, h))) k)
behind (x ∷ ls) front us vs zero l e k = refl
behind (x ∷ ls) front us vs (suc i) l e k = behind ls front us vs i l e (⊎_elim (λ h. inl (omega (arith, h))) (λ h. inr (omega (arith, h))) k)

lengths_behind : (ls us vs : List Value) → length us ≡ length vs → length (ls ++ us) ≡ length (ls ++ vs)
lengths_behind [] us vs l = l
lengths_behind (x ∷ ls) us vs l = ap suc (lengths_behind ls us vs l)

rows_alike : (ls : List Value) (front : ℕ) (us vs : List Value) → length us ≡ length vs → take front us ≡ take front vs → AreAlike (length ls + front) (length ls + length vs) (ls ++ us) (ls ++ vs)
rows_alike ls front us vs l e = record { lengths = lengths_behind ls us vs l; each = λ i k. behind ls front us vs i l e k }

-- what needs the first variables alone is so in each row that begins with the same values
pub same-row-outcome : (c : Context) (front : ℕ) (us vs : List Value) (t : ResolvedTree) (o : Outcome) → length us ≡ length vs → take front us ≡ take front vs
    → need (length c.locals + length vs) t ≤ length c.locals + front → HasOutcome (within c us) t o → HasOutcome (within c vs) t o
same-row-outcome c front us vs t o l e h p =
    subst (λ X. X) (same_outcome (within c us) (c.locals ++ vs) (length c.locals + front) (length c.locals + length vs) t (rows_alike c.locals front us vs l e) h o) p

pub same-row-told : (c : Context) (front : ℕ) (us vs : List Value) (q : Quantifier) (p : ResolvedPart) (t : ResolvedTree) (u : Truth) → length us ≡ length vs → take front us ≡ take front vs
    → part_need (length c.locals + length vs) p ≤ length c.locals + front → need (length c.locals + length vs) t ≤ length c.locals + front
    → IsTold q (λ a. IsConstraint (within c us) p a) (λ b. IsTruth (within c us) t b) u → IsTold q (λ a. IsConstraint (within c vs) p a) (λ b. IsTruth (within c vs) t b) u
same-row-told c front us vs q p t u l e h k told =
    let n = length c.locals + front in
    let m = length c.locals + length vs in
    let alike = rows_alike c.locals front us vs l e in
    subst (λ X. X) (λ i. IsTold q (λ a. same_constraint (within c us) (c.locals ++ vs) n m p alike h a i) (λ b. same_truth (within c us) (c.locals ++ vs) n m t alike k b i) u) told

pub same-row : (c : Context) (front : ℕ) (us vs : List Value) (t : ResolvedTree) (u : Truth) → length us ≡ length vs → take front us ≡ take front vs
    → need (length c.locals + length vs) t ≤ length c.locals + front → IsTruth (within c us) t u → IsTruth (within c vs) t u
same-row c front us vs t u l e h p =
    subst (λ X. X) (same_truth (within c us) (c.locals ++ vs) (length c.locals + front) (length c.locals + length vs) t (rows_alike c.locals front us vs l e) h u) p
