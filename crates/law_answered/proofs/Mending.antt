-- Which number is the greatest makes no difference to what is finite.
use Rattle.law_answered.proofs.Prelude.{◌≡◌, [], ap, List, refl, Some, subst, sym, ℕ, AllByRecursion, causes, Comp, Defined, finite_without_cause, first, IsFinite, IsTrue, NotFinite, one_bounds, Schema, ◌∷◌}
use Rattle.std.proofs.Common.{◌&&◌, ◌||◌, ap₂, is_none, true≢false}
use Rattle.zf_finite.specs.{bounds}
use Rattle.zf_term.specs.{carrier, DeclaredSet, DeclaredSets, no_sets, plain, set, sets_of, sides}
use Rattle.law_answered.specs.{NumbersMend}

none_first : (cs : List NotFinite) → IsTrue (is_none (first cs)) → cs ≡ []
none_first [] none = refl
none_first (c ∷ cs) none = absurd (true≢false (sym none))

module _ (m n : ℕ) (g : List Defined) where
  mutual
    bounds_alike : (d : DeclaredSet) → bounds (Some m) g d ≡ bounds (Some n) g d
    bounds_alike (plain t) = refl
    bounds_alike (carrier t) = refl
    bounds_alike (sides left right) = ap₂ (λ b c. b && c) (one_alike left) (one_alike right)

    one_alike : (ds : DeclaredSets) → one_bounds (Some m) g ds ≡ one_bounds (Some n) g ds
    one_alike no_sets = refl
    one_alike (set d ds) = ap₂ (λ b c. b || c) (bounds_alike d) (one_alike ds)

  all_bounded : (cs : List Comp) → AllByRecursion (λ c. IsTrue (one_bounds (Some m) g (sets_of c.sets))) cs → AllByRecursion (λ c. IsTrue (one_bounds (Some n) g (sets_of c.sets))) cs
  all_bounded [] all = tt
  all_bounded (c ∷ cs) all = (subst IsTrue (one_alike (sets_of c.sets)) all.0, all_bounded cs all.1)

  finite_alike : (a : Schema) → IsFinite (Some m) g a → IsFinite (Some n) g a
  finite_alike a finite = record { bounded = all_bounded a.comps finite.bounded; sets = finite.sets; conjuncts = finite.conjuncts }

pub numbers_mend : NumbersMend
numbers_mend n g a = (
  λ mended. finite_alike 0 n g a ((finite_without_cause (Some 0) g a).1 (none_first (causes (Some 0) g a) mended)),
  λ finite. ap (λ (cs : List NotFinite). is_none (first cs)) ((finite_without_cause (Some 0) g a).0 (finite_alike n 0 g a finite)),
)
