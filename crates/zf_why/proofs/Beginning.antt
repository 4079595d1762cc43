-- Where a search over some predicates can begin, so can one over some of them.
use Rattle.zf_why.proofs.Prelude.{◌++◌, ◌<◌, ◌∷◌, ◌≡◌, ◌≤◌, [], arith, Bool, length, List, Some, subst, suc, sym, zero, ℕ, AllByRecursion, slice_get, Comp, sets_of, ResolvedTree, Environment, property, IsNoneOut, chosen_of, CanAsk, CanBegin, schema_with, offending, unless, AreDueWithin, due_of, IsOneOut, IsOutAt, IsTrue, all_chosen_of}
use Rattle.zf_finite.specs.{all_set_offenders, IsFinite, one_bounds}
use Rattle.zf_why.proofs.Lists.{all_at}

module _ (e : Environment) (cs : List Comp) where
  finite_each : (ps : List ResolvedTree) → AllByRecursion (CanAsk e (length cs)) ps → AllByRecursion (λ t. unless e.numbers (offending e.globals t) ≡ []) ps
  finite_each [] h = tt
  finite_each (p ∷ ps) h = (h.0.finite, finite_each ps h.1)

  pub is_finite : (ps : List ResolvedTree) → CanBegin e cs ps → IsFinite e.numbers e.globals (schema_with cs ps)
  is_finite ps h = record { bounded = h.ranges.bounded; sets = h.ranges.sets; conjuncts = finite_each ps h.predicates }

  each_asked : (ps : List ResolvedTree) → AllByRecursion (λ t. unless e.numbers (offending e.globals t) ≡ []) ps
      → ((c : ℕ) → c < length ps → due_of (slice_get ps c) ≤ length cs) → AllByRecursion (CanAsk e (length cs)) ps
  each_asked [] f d = tt
  each_asked (p ∷ ps) f d = (record { finite = f.0; due = d zero (omega arith) }, each_asked ps f.1 (λ c l. d (suc c) (omega arith)))

  -- a search of a schema
  pub can_begin : (ps : List ResolvedTree) → IsFinite e.numbers e.globals (schema_with cs ps) → AreDueWithin (property e ps) (length cs) → IsNoneOut e cs → CanBegin e cs ps
  can_begin ps finite due none = record {
    ranges = record { bounded = finite.bounded; sets = finite.sets; none_out = none };
    predicates = each_asked ps finite.conjuncts due;
  }

  pub over_none : (ps : List ResolvedTree) → CanBegin e cs ps → CanBegin e cs []
  over_none ps h = record { ranges = h.ranges; predicates = tt }

  pub each_begins : (given ps : List ResolvedTree) (m : List Bool) → CanBegin e cs (given ++ ps) → CanBegin e cs (given ++ chosen_of ps m)
  each_begins given ps m h = record { ranges = h.ranges; predicates = all_chosen_of (CanAsk e (length cs)) given ps m h.predicates }

  -- a search over one component
  pub one_component : (i : ℕ) (c : Comp) → slice_get cs i ≡ Some c → CanBegin e cs [] → CanBegin e (c ∷ []) []
  one_component i c at h = record {
    ranges = record {
      bounded = (all_at (λ d. IsTrue (one_bounds e.numbers e.globals (sets_of d.sets))) cs i c at h.ranges.bounded, tt);
      sets = (all_at (λ d. unless e.numbers (all_set_offenders e.globals (sets_of d.sets)) ≡ []) cs i c at h.ranges.sets, tt);
      none_out = λ place out. never place out;
    };
    predicates = tt;
  } where
    never : (place : ℕ) → IsOutAt e (c ∷ []) place → ⊥
    never zero (d, is, out) = let same : c ≡ d = cc in h.ranges.none_out i (c, at, subst (λ x. IsOneOut e (sets_of x.sets)) (sym same) out)
    never (suc place) (d, is, out) = cc

  pub one_begins : (ps : List ResolvedTree) (i : ℕ) (p : ResolvedTree) → slice_get ps i ≡ Some p → CanBegin e cs ps → CanBegin e cs (p ∷ [])
  one_begins ps i p at h = record { ranges = h.ranges; predicates = (all_at (CanAsk e (length cs)) ps i p at h.predicates, tt) }
