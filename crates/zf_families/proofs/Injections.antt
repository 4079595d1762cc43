-- What the rows of injections are.
use Rattle.zf_families.proofs.Prelude.{◌*◌, ◌++◌, ◌+◌, ◌-◌, ◌<◌, ◌∙◌, ◌∷◌, ◌≡◌, ◌≤◌, [], ap, arith, false, get_or, length, List, map, refl, suc, sym, zero, ℕ, nil_from_length, filter, IsFunctional, IsInjective, IsRelationThat, IsTotal, pair, IsAscending, SetOf, Value, arrow_rows, falling, fits_apart, pairs, some, whole}
use Rattle.zf_tree.specs.declared.symbol.Arrow.TheVariants as kind
use Rattle.zf_families.proofs.Told.{Tells}
use Rattle.zf_families.proofs.InjectionCounts.{length_injections, filter_map_none, seconds, other_itself}
use Rattle.zf_families.proofs.Functions.{total_told}
use Rattle.zf_families.proofs.FunctionLaws.{injections}
use Rattle.zf_families.proofs.Constant.{alone}

abbrev IsInjection : List Value → Type 0
IsInjection r = IsFunctional r × IsInjective r

-- the law of injections with totality in the order of the definitions
pub total_injections_told : (a b : List Value) → IsAscending a → IsAscending b → Tells SetOf (IsRelationThat (λ r. IsFunctional r × IsInjective r × IsTotal a r) a b) (whole fits_apart (map (pairs b) a))
total_injections_told a b h k =
    let t = total_told b fits_apart IsInjection injections a h k in
    record {
      kept = t.kept;
      ordered = t.ordered;
      passes = λ r m. let p = t.passes r m in (p.0, p.1, p.2, p.3, (p.4.0.0, p.4.0.1, p.4.1));
      found = λ z p. t.found z (p.0, p.1, p.2, p.3, ((p.4.0, p.4.1), p.4.2));
    }

falling_none : (n k : ℕ) → n < k → falling n k ≡ 0
falling_none n zero h = absurd (omega arith)
falling_none zero (suc k) h = grind arith
falling_none (suc n) (suc k) h = let e : falling (suc n - 1) k ≡ 0 = falling_none (suc n - 1) k (omega arith) in ap (λ m. suc n * m) e ∙ grind arith

-- from a larger set there is none
pub no_injections : (a b : List Value) → IsAscending b → length b < length a → whole fits_apart (map (pairs b) a) ≡ []
no_injections a b h l = nil_from_length (whole fits_apart (map (pairs b) a)) (length_injections a b h ∙ falling_none (length b) (length a) l)

-- ---- to one member

-- a pair alone for each
abbrev pub single_pairs : List Value → Value → List (List Value)
single_pairs a y = map (λ x. pair x y ∷ []) a

some_alone : (a : List Value) (y : Value) → some fits_apart (map (pairs (y ∷ [])) a) ≡ single_pairs a y
some_alone [] y = refl
some_alone (x ∷ a) y =
    let rest = some fits_apart (map (pairs (y ∷ [])) a) in
    let none : filter (fits_apart (pair x y)) rest ≡ [] =
    ap (filter (fits_apart (pair x y))) (some_alone a y) ∙ filter_map_none (fits_apart (pair x y)) (λ u. pair u y ∷ []) (λ u. taken u) a in
    ap (λ rs. (map (λ r. pair x y ∷ r) ([] ∷ rs) ++ []) ++ rest) none ∙ ap (λ rs. (pair x y ∷ []) ∷ rs) (some_alone a y)
  where
    taken : (u : Value) → fits_apart (pair x y) (pair u y ∷ []) ≡ false
    taken u = let e = seconds x y u y ∙ other_itself y in cc

pub single_pair_rows : (a b : List Value) (y : Value) (rows : List (List Value)) → 1 ≤ length b → length b < 2 → y ≡ get_or b 0 y → rows ≡ [] ∷ single_pairs a y → rows ≡ arrow_rows kind.PartialInjection a b
single_pair_rows a b y rows h k e r = r ∙ ap (λ rs. [] ∷ rs) (sym (some_alone a y)) ∙ ap (arrow_rows kind.PartialInjection a) (sym (alone b y h k e))
