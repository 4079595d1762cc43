-- A schema is finite where nothing makes it infinite.
use Rattle.zf_finite.proofs.Prelude.{if◌then◌else◌, ◌++◌, ◌∙◌, ◌∷◌, ◌≡◌, [], ap, Bool, false, flat_map, IsTrue, List, map, Option, refl, Some, sym, true, true≢false, ℕ, flat_map-cons, ResolvedTree, Comp, Defined, Schema, sets_of, offending, all_set_offenders, causes, comp_causes, FiniteWithoutCause, IsFinite, Offends, one_bounds, unbounded, unless}
use Rattle.std.specs.List.{AllByRecursion}

both_none : {A : Type 0} (xs ys : List A) → xs ++ ys ≡ [] → (xs ≡ []) × (ys ≡ [])
both_none [] ys e = (refl, e)
both_none (x ∷ xs) ys e = absurd (cc)

none_of_both : {A : Type 0} (xs ys : List A) → xs ≡ [] → ys ≡ [] → xs ++ ys ≡ []
none_of_both [] ys e f = f
none_of_both (x ∷ xs) ys e f = absurd (cc)

-- what is made of each of a list
none_made : {A B : Type 0} (f : A → B) (xs : List A) → map f xs ≡ [] → xs ≡ []
none_made f [] e = refl
none_made f (x ∷ xs) e = absurd (cc)

each_none : {A B : Type 0} (f : A → List B) (xs : List A) → flat_map f xs ≡ [] → AllByRecursion (λ x. f x ≡ []) xs
each_none f [] e = tt
each_none f (x ∷ xs) e =
    let p = both_none (f x) (flat_map f xs) (sym (flat_map-cons f x xs) ∙ e) in
    (p.0, each_none f xs p.1)

none_of_each : {A B : Type 0} (f : A → List B) (xs : List A) → AllByRecursion (λ x. f x ≡ []) xs → flat_map f xs ≡ []
none_of_each f [] p = refl
none_of_each f (x ∷ xs) p = flat_map-cons f x xs ∙ none_of_both (f x) (flat_map f xs) p.0 (none_of_each f xs p.1)

bounded_at : {A : Type 0} (b : Bool) (l : A) → (if b then [] else l ∷ []) ≡ [] → b ≡ true
bounded_at true l e = refl
bounded_at false l e = absurd (cc)

none_at : {A : Type 0} (b : Bool) (l : A) → b ≡ true → (if b then [] else l ∷ []) ≡ []
none_at true l e = refl
none_at false l e = absurd (true≢false (sym e))

-- where there is a greatest number, no conjunct offends
pub none_where_ended : (n : ℕ) (g : List Defined) (ts : List ResolvedTree) → flat_map (λ t. unless (Some n) (offending g t)) ts ≡ []
none_where_ended n g [] = refl
none_where_ended n g (t ∷ ts) = flat_map-cons (λ t. unless (Some n) (offending g t)) t ts ∙ none_where_ended n g ts

module _ (n : Option ℕ) (g : List Defined) where
  bounded : (c : Comp) → comp_causes n g c ≡ [] → IsTrue (one_bounds n g (sets_of c.sets))
  bounded c e =
      let ds = sets_of c.sets in
      bounded_at (one_bounds n g ds) _ (both_none (unbounded n g c.name ds) (map Offends (unless n (all_set_offenders g ds))) e).0

  unoffended : (c : Comp) → comp_causes n g c ≡ [] → unless n (all_set_offenders g (sets_of c.sets)) ≡ []
  unoffended c e =
      let ds = sets_of c.sets in
      none_made Offends (unless n (all_set_offenders g ds)) (both_none (unbounded n g c.name ds) (map Offends (unless n (all_set_offenders g ds))) e).1

  without : (c : Comp) → IsTrue (one_bounds n g (sets_of c.sets)) → unless n (all_set_offenders g (sets_of c.sets)) ≡ [] → comp_causes n g c ≡ []
  without c p q =
      let ds = sets_of c.sets in
      none_of_both (unbounded n g c.name ds) (map Offends (unless n (all_set_offenders g ds))) (none_at (one_bounds n g ds) _ p) (ap (map Offends) q)

  comps_bounded : (cs : List Comp) → AllByRecursion (λ c. comp_causes n g c ≡ []) cs → AllByRecursion (λ c. IsTrue (one_bounds n g (sets_of c.sets))) cs
  comps_bounded [] p = tt
  comps_bounded (c ∷ cs) p = (bounded c p.0, comps_bounded cs p.1)

  comps_unoffended : (cs : List Comp) → AllByRecursion (λ c. comp_causes n g c ≡ []) cs → AllByRecursion (λ c. unless n (all_set_offenders g (sets_of c.sets)) ≡ []) cs
  comps_unoffended [] p = tt
  comps_unoffended (c ∷ cs) p = (unoffended c p.0, comps_unoffended cs p.1)

  comps_none :
      (cs : List Comp) → AllByRecursion (λ c. IsTrue (one_bounds n g (sets_of c.sets))) cs → AllByRecursion (λ c. unless n (all_set_offenders g (sets_of c.sets)) ≡ []) cs
      → AllByRecursion (λ c. comp_causes n g c ≡ []) cs
  comps_none [] p q = tt
  comps_none (c ∷ cs) p q = (without c p.0 q.0, comps_none cs p.1 q.1)

  pub is_finite : (a : Schema) → flat_map (comp_causes n g) a.comps ≡ [] → flat_map (λ t. unless n (offending g t)) a.conjuncts ≡ [] → IsFinite n g a
  is_finite a comps conjuncts =
      let each = each_none (comp_causes n g) a.comps comps in
      record { bounded = comps_bounded a.comps each; sets = comps_unoffended a.comps each; conjuncts = each_none (λ t. unless n (offending g t)) a.conjuncts conjuncts }

  without_cause : (a : Schema) → causes n g a ≡ [] → IsFinite n g a
  without_cause a e =
      let p = both_none (flat_map (comp_causes n g) a.comps) (map Offends (flat_map (λ t. unless n (offending g t)) a.conjuncts)) e in
      is_finite a p.0 (none_made Offends (flat_map (λ t. unless n (offending g t)) a.conjuncts) p.1)

  no_cause : (a : Schema) → IsFinite n g a → causes n g a ≡ []
  no_cause a f =
      none_of_both (flat_map (comp_causes n g) a.comps) (map Offends (flat_map (λ t. unless n (offending g t)) a.conjuncts))
      (none_of_each (comp_causes n g) a.comps (comps_none a.comps f.bounded f.sets))
      (ap (map Offends) (none_of_each (λ t. unless n (offending g t)) a.conjuncts f.conjuncts))

pub finite_without_cause : FiniteWithoutCause
finite_without_cause n g a = (no_cause n g a, without_cause n g a)
