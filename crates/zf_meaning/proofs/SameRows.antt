-- A term means the same in rows that agree in the components that it names.
use Rattle.zf_meaning.proofs.Prelude.{◌++◌, ◌∷◌, ◌≡◌, [], ap, List, refl, slice_get, Reference, Component, Global, Local, Outcome, Truth, Value, all_onto, links_onto, onto, part_onto, ranges_onto, absent, binary, bracket, comprehension, chain, constant, empty_set, link, listed, no_links, no_ranges, no_terms, number, present, quantified, range, Ranges, reference, ResolvedLinks, ResolvedPart, ResolvedTree, ResolvedTrees, term, unary, Context, outcome_in, value_or, within, AreLinked, Builds, HasOutcome, HaveOutcomes, HaveRanges, infinite_right, IsBuilt, IsConstraint, IsLink, IsTruth, OnBoth, one_more, OnOne, OnSeveral, repeated, Several, BinaryOutcome, ListedOutcome, UnaryOutcome, IsConjunction, IsConnected, IsQuantified, IsTold, opposite}
use Rattle.zf_tree.specs.declared.operator.Operator.TheVariants as operator
use Rattle.zf_tree.specs.declared.operator.Unary.TheVariants as the_unary

-- the same context with another row
abbrev pub with_row : Context → List Value → Context
with_row c vs = record { environment = c.environment; row = vs; locals = c.locals }

-- rows that have the same component, where the name is of one
abbrev pub AgreeAt : List Value → List Value → Reference → Type 0
AgreeAt row vs (Component i) = slice_get row i ≡ slice_get vs i
AgreeAt row vs (Local i) = Unit {0}
AgreeAt row vs (Global i) = Unit {0}

abbrev pub Agree : List Value → List Value → List Reference → Type 0
Agree row vs [] = Unit {0}
Agree row vs (r ∷ rs) = AgreeAt row vs r × Agree row vs rs

-- ---- the references before those of a term

agree_front : (row vs : List Value) (rs ss : List Reference) → Agree row vs (rs ++ ss) → Agree row vs rs
agree_front row vs [] ss h = tt
agree_front row vs (r ∷ rs) ss h = (h.0, agree_front row vs rs ss h.1)

agree_last : (row vs : List Value) (rs : List Reference) (r : Reference) → Agree row vs (rs ++ r ∷ []) → AgreeAt row vs r
agree_last row vs [] r h = h.0
agree_last row vs (s ∷ rs) r h = agree_last row vs rs r h.1

mutual
  before_term : (row vs : List Value) (rs : List Reference) (t : ResolvedTree) → Agree row vs (onto rs t) → Agree row vs rs
  before_term row vs rs (reference l r) h = agree_front row vs rs (r ∷ []) h
  before_term row vs rs (number l n) h = h
  before_term row vs rs (constant l x) h = h
  before_term row vs rs (empty_set l t) h = before_term row vs rs t h
  before_term row vs rs (bracket l t) h = before_term row vs rs t h
  before_term row vs rs (listed l form ts) h = before_terms row vs rs ts h
  before_term row vs rs (comprehension l ds f t) h = before_ranges row vs rs ds (before_part row vs (ranges_onto rs ds) f (before_part row vs (part_onto (ranges_onto rs ds) f) t h))
  before_term row vs rs (unary l op t) h = before_term row vs rs t h
  before_term row vs rs (binary l op a b) h = before_term row vs rs a (before_term row vs (onto rs a) b h)
  before_term row vs rs (chain l t ks) h = before_term row vs rs t (before_links row vs (onto rs t) ks h)
  before_term row vs rs (quantified l q ds f t) h = before_ranges row vs rs ds (before_part row vs (ranges_onto rs ds) f (before_term row vs (part_onto (ranges_onto rs ds) f) t h))

  before_terms : (row vs : List Value) (rs : List Reference) (ts : ResolvedTrees) → Agree row vs (all_onto rs ts) → Agree row vs rs
  before_terms row vs rs no_terms h = h
  before_terms row vs rs (term t ts) h = before_term row vs rs t (before_terms row vs (onto rs t) ts h)

  before_links : (row vs : List Value) (rs : List Reference) (ks : ResolvedLinks) → Agree row vs (links_onto rs ks) → Agree row vs rs
  before_links row vs rs no_links h = h
  before_links row vs rs (link r t ks) h = before_term row vs rs t (before_links row vs (onto rs t) ks h)

  before_ranges : (row vs : List Value) (rs : List Reference) (ds : Ranges) → Agree row vs (ranges_onto rs ds) → Agree row vs rs
  before_ranges row vs rs no_ranges h = h
  before_ranges row vs rs (range n t ds) h = before_term row vs rs t (before_ranges row vs (onto rs t) ds h)

  before_part : (row vs : List Value) (rs : List Reference) (t : ResolvedPart) → Agree row vs (part_onto rs t) → Agree row vs rs
  before_part row vs rs absent h = h
  before_part row vs rs (present t) h = before_term row vs rs t h

-- ---- names

same_name : (c : Context) (vs : List Value) (r : Reference) → AgreeAt c.row vs r → outcome_in c r ≡ outcome_in (with_row c vs) r
same_name c vs (Component i) h = ap value_or h
same_name c vs (Local i) h = refl
same_name c vs (Global i) h = refl

-- ---- terms

mutual
  pub same_outcome : (c : Context) (vs : List Value) (rs : List Reference) (t : ResolvedTree) → Agree c.row vs (onto rs t) → (o : Outcome) → HasOutcome c t o ≡ HasOutcome (with_row c vs) t o
  same_outcome c vs rs (reference l r) h o = λ i. o ≡ same_name c vs r (agree_last c.row vs rs r h) i
  same_outcome c vs rs (number l n) h o = refl
  same_outcome c vs rs (constant l x) h o = refl
  same_outcome c vs rs (empty_set l t) h o = refl
  same_outcome c vs rs (bracket l t) h o = same_outcome c vs rs t h o
  same_outcome c vs rs (listed l form ts) h o = λ i. (s : Several) × same_outcomes c vs rs ts h s i × OnSeveral s (ListedOutcome form) o
  same_outcome c vs rs (comprehension l ds f t) h o =
      let at_part = before_part c.row vs (part_onto (ranges_onto rs ds) f) t h in
      let at_ranges = before_part c.row vs (ranges_onto rs ds) f at_part in
      λ i. (s : Several) × same_ranges c vs rs ds at_ranges s i
      × IsBuilt s (λ ws u. same_constraint (within c ws) vs (ranges_onto rs ds) f at_part u i) (λ ws x. same_build (within c ws) vs ws (part_onto (ranges_onto rs ds) f) t h x i) o
  same_outcome c vs rs (unary l op t) h o = λ i. (x : Outcome) × same_outcome c vs rs t h x i × OnOne x (UnaryOutcome op) o
  same_outcome c vs rs (binary l op a b) h o =
      λ i. (x y : Outcome) × same_outcome c vs rs a (before_term c.row vs (onto rs a) b h) x i × same_outcome c vs (onto rs a) b h y i × OnBoth x y (BinaryOutcome op) o
  same_outcome c vs rs (chain l t ks) h o = refl
  same_outcome c vs rs (quantified l q ds f t) h o = refl

  same_outcomes : (c : Context) (vs : List Value) (rs : List Reference) (ts : ResolvedTrees) → Agree c.row vs (all_onto rs ts) → (s : Several) → HaveOutcomes c ts s ≡ HaveOutcomes (with_row c vs) ts s
  same_outcomes c vs rs no_terms h s = refl
  same_outcomes c vs rs (term t ts) h s =
      λ i. (x : Outcome) × (r : Several) × same_outcome c vs rs t (before_terms c.row vs (onto rs t) ts h) x i × same_outcomes c vs (onto rs t) ts h r i × (s ≡ one_more x r)

  same_ranges : (c : Context) (vs : List Value) (rs : List Reference) (ds : Ranges) → Agree c.row vs (ranges_onto rs ds) → (s : Several) → HaveRanges c ds s ≡ HaveRanges (with_row c vs) ds s
  same_ranges c vs rs no_ranges h s = refl
  same_ranges c vs rs (range n t ds) h s =
      λ i. (x : Outcome) × (r : Several) × same_outcome c vs rs t (before_ranges c.row vs (onto rs t) ds h) x i × same_ranges c vs (onto rs t) ds h r i × (s ≡ repeated n x r)

  same_build : (c : Context) (vs ws : List Value) (rs : List Reference) (t : ResolvedPart) → Agree c.row vs (part_onto rs t) → (o : Outcome) → Builds c ws t o ≡ Builds (with_row c vs) ws t o
  same_build c vs ws rs absent h o = refl
  same_build c vs ws rs (present t) h o = same_outcome c vs rs t h o

  same_constraint : (c : Context) (vs : List Value) (rs : List Reference) (t : ResolvedPart) → Agree c.row vs (part_onto rs t) → (u : Truth) → IsConstraint c t u ≡ IsConstraint (with_row c vs) t u
  same_constraint c vs rs absent h u = refl
  same_constraint c vs rs (present t) h u = same_truth c vs rs t h u

  pub same_truth : (c : Context) (vs : List Value) (rs : List Reference) (t : ResolvedTree) → Agree c.row vs (onto rs t) → (u : Truth) → IsTruth c t u ≡ IsTruth (with_row c vs) t u
  same_truth c vs rs (constant l x) h u = refl
  same_truth c vs rs (bracket l t) h u = same_truth c vs rs t h u
  same_truth c vs rs (unary l the_unary.Not t) h u = same_truth c vs rs t h (opposite u)
  same_truth c vs rs (unary l (the_unary.Sign s) t) h u = refl
  same_truth c vs rs (unary l the_unary.Inverse t) h u = refl
  same_truth c vs rs (binary l (operator.Connective x) a b) h u =
      λ i. IsConnected x (λ p. same_truth c vs rs a (before_term c.row vs (onto rs a) b h) p i) (λ q. same_truth c vs (onto rs a) b h q i) u
  same_truth c vs rs (binary l (operator.Function x) a b) h u = refl
  same_truth c vs rs (binary l (operator.Generic x) a b) h u = refl
  same_truth c vs rs (binary l operator.Application a b) h u = refl
  same_truth c vs rs (binary l operator.Image a b) h u = refl
  same_truth c vs rs (chain l t ks) h u =
      λ i. (x : Outcome) × same_outcome c vs rs t (before_links c.row vs (onto rs t) ks h) x i × same_links c vs (onto rs t) x ks h u i
  same_truth c vs rs (quantified l q ds f t) h u =
      let at_part = before_term c.row vs (part_onto (ranges_onto rs ds) f) t h in
      let at_ranges = before_part c.row vs (ranges_onto rs ds) f at_part in
      λ i. (s : Several) × same_ranges c vs rs ds at_ranges s i
      × IsQuantified q s (λ ws w. IsTold q (λ a. same_constraint (within c ws) vs (ranges_onto rs ds) f at_part a i) (λ b. same_truth (within c ws) vs (part_onto (ranges_onto rs ds) f) t h b i) w) u
  same_truth c vs rs (reference l r) h u = refl
  same_truth c vs rs (number l n) h u = refl
  same_truth c vs rs (empty_set l t) h u = refl
  same_truth c vs rs (listed l form ts) h u = refl
  same_truth c vs rs (comprehension l ds f t) h u = refl

  same_links : (c : Context) (vs : List Value) (rs : List Reference) (x : Outcome) (ks : ResolvedLinks) → Agree c.row vs (links_onto rs ks) → (u : Truth)
      → AreLinked c x ks u ≡ AreLinked (with_row c vs) x ks u
  same_links c vs rs x no_links h u = refl
  same_links c vs rs x (link r t ks) h u =
      λ i. (y : Outcome) × same_outcome c vs rs t (before_links c.row vs (onto rs t) ks h) y i
      × IsConjunction (λ p. IsLink (infinite_right c r t) r x y p) (λ q. same_links c vs (onto rs t) y ks h q i) u
