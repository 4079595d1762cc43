-- Which schemas are finite, where given sets are, and sets of numbers if there is a greatest one: each component has a finite declared set.
use Rattle.std.specs.Prelude.{◌≡◌, IsTrue, ℕ, Bool, false, not, ◌&&◌, ◌||◌, is_some, if◌then◌else◌, List, [], ◌∷◌, ◌++◌, flat_map, map, Option, is_none, unwrap_or}
use Rattle.std.specs.List.{AllByRecursion}
use Rattle.zf_tree.specs.declared.span.Span.{Span}
use Rattle.zf_term.specs.{carrier, Comp, DeclaredSet, DeclaredSets, Defined, has_numbers, no_sets, plain, Schema, set, sets_of, sides, term_span}
use Rattle.zf_extent.specs.declared.offender.Offender.{Offender}
use Rattle.zf_extent.specs.{direct, first, offender_span, offending, offending_within, unless}
use Rattle.zf_finite.specs.declared.not_finite.NotFinite.{NotFinite}
use Rattle.zf_finite.specs.declared.not_finite.NotFinite.TheVariants.{Unbounded, Offends}

-- where n is the greatest number, if there is one: a declared set bounds, unless it is infinite; a disjunction needs a bound on both sides
abbrev mutual
  pub bounds : Option ℕ → List Defined → DeclaredSet → Bool
  bounds n g (plain t) = is_some n || is_none (direct g t)
  bounds n g (carrier t) = is_some n || not (has_numbers t)
  bounds n g (sides left right) = one_bounds n g left && one_bounds n g right

  pub one_bounds : Option ℕ → List Defined → DeclaredSets → Bool
  one_bounds n g no_sets = false
  one_bounds n g (set d ds) = bounds n g d || one_bounds n g ds

-- where the sets of declarations stand, from left to right
abbrev mutual
  pub plain_spans : DeclaredSet → List Span
  plain_spans (plain t) = term_span t ∷ []
  plain_spans (carrier t) = []
  plain_spans (sides left right) = all_plain_spans left ++ all_plain_spans right

  pub all_plain_spans : DeclaredSets → List Span
  all_plain_spans no_sets = []
  all_plain_spans (set d ds) = plain_spans d ++ all_plain_spans ds

-- where the first of them stands; a component of a schema has one
abbrev pub first_plain : DeclaredSets → Span
first_plain ds = unwrap_or (first (all_plain_spans ds)) (record { start = 0; stop = 0 })

-- the component, with that place, where nothing bounds it
abbrev pub unbounded : Option ℕ → List Defined → (name : List ℕ) → DeclaredSets → List NotFinite
unbounded n g name ds = if one_bounds n g ds then [] else Unbounded (first_plain ds) name ∷ []

-- a declared set that is infinite as a whole does not offend: it filters
abbrev mutual
  pub set_offenders : List Defined → DeclaredSet → List Offender
  set_offenders g (plain t) = offending_within g t
  set_offenders g (carrier t) = []
  set_offenders g (sides left right) = all_set_offenders g left ++ all_set_offenders g right

  pub all_set_offenders : List Defined → DeclaredSets → List Offender
  all_set_offenders g no_sets = []
  all_set_offenders g (set d ds) = set_offenders g d ++ all_set_offenders g ds

abbrev pub comp_causes : Option ℕ → List Defined → Comp → List NotFinite
comp_causes n g c = unbounded n g c.name (sets_of c.sets) ++ map Offends (unless n (all_set_offenders g (sets_of c.sets)))

-- what makes a schema infinite: its components with their declared sets, and then its conjuncts
abbrev pub causes : Option ℕ → List Defined → Schema → List NotFinite
causes n g a = flat_map (comp_causes n g) a.comps ++ map Offends (flat_map (λ t. unless n (offending g t)) a.conjuncts)

abbrev pub cause_span : NotFinite → Span
cause_span (Unbounded l name) = l
cause_span (Offends o) = offender_span o

-- each component has a declared set that bounds it, and nothing offends
pub record IsFinite (n : Option ℕ) (g : List Defined) (a : Schema) : Type 0 where
  pub bounded : AllByRecursion (λ c. IsTrue (one_bounds n g (sets_of c.sets))) a.comps
  pub sets : AllByRecursion (λ c. unless n (all_set_offenders g (sets_of c.sets)) ≡ []) a.comps
  pub conjuncts : AllByRecursion (λ t. unless n (offending g t) ≡ []) a.conjuncts
