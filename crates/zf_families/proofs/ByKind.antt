-- The rows of each kind of arrow make exactly its relations, and how many there are.
use Rattle.zf_families.proofs.Prelude.{◌+◌, ◌*◌, ◌^◌, ◌∙◌, ◌∷◌, ◌≡◌, [], add-one, ap, length, List, ltb, map, min, refl, Result, suc, sym, ℕ, length-map, IfOk, AllocError, IsFunctional, IsInjective, IsAscending, pair, SET_MAX, SetOf, Value, Outcome, Is, Out, AreArrows, arrow_count, arrow_rows, AreSets, fits_any, fits_apart, IsArrow, pairs, singles}
use Rattle.zf_tree.specs.declared.symbol.Arrow.{Arrow}
use Rattle.zf_tree.specs.declared.symbol.Arrow.TheVariants as kind
use Rattle.zf_families.proofs.Told.{TellsOut, are_sets, ascends, Tells, out_by_size, built_result}
use Rattle.zf_families.proofs.RelationSets.{product_of, relations_told, length_product}
use Rattle.zf_families.proofs.Counts.{length_some, length_whole, sizes_same}
use Rattle.zf_families.proofs.Functions.{partial_told, total_told}
use Rattle.zf_families.proofs.FunctionLaws.{functions, injections}
use Rattle.zf_families.proofs.InjectionCounts.{length_injections, length_partial_injections}
use Rattle.zf_families.proofs.Injections.{total_injections_told}

arrows_told : (arrow : Arrow) (a b : List Value) → IsAscending a → IsAscending b → Tells SetOf (IsArrow arrow a b) (arrow_rows arrow a b)
unfolding IsArrow
arrows_told kind.Relation a b h k = relations_told a b h k
arrows_told kind.PartialFunction a b h k = partial_told b fits_any IsFunctional functions a h k
arrows_told kind.TotalFunction a b h k = total_told b fits_any IsFunctional functions a h k
arrows_told kind.PartialInjection a b h k = partial_told b fits_apart (λ r. IsFunctional r × IsInjective r) injections a h k
arrows_told kind.TotalInjection a b h k = total_injections_told a b h k

arrows_counted : (arrow : Arrow) (a b : List Value) → IsAscending b → length (arrow_rows arrow a b) ≡ arrow_count arrow (length a) (length b)
arrows_counted kind.Relation a b k = length_some (singles (product_of a b)) ∙ sizes_same suc 1 (λ x. x ∷ []) (product_of a b) (λ x. refl) ∙ ap (λ n. 2 ^ n) (length_product a b)
arrows_counted kind.PartialFunction a b k =
    length_some (map (pairs b) a) ∙ sizes_same suc (length b) (pairs b) a (λ x. length-map b (pair x)) ∙ ap (λ n. n ^ length a) (sym (add-one (length b)))
arrows_counted kind.TotalFunction a b k = length_whole (map (pairs b) a) ∙ sizes_same (λ n. n) (length b) (pairs b) a (λ x. length-map b (pair x))
arrows_counted kind.PartialInjection a b k = length_partial_injections a b k
arrows_counted kind.TotalInjection a b k = length_injections a b k

pub arrows_out : (arrow : Arrow) (a b : List Value) → IsAscending a → IsAscending b → (count : ℕ) → count ≡ min (arrow_count arrow (length a) (length b)) (SET_MAX + 1)
    → TellsOut (AreArrows arrow a b) (ltb SET_MAX count)
unfolding AreArrows
arrows_out arrow a b h k count e =
    out_by_size SetOf (IsArrow arrow a b) (arrow_rows arrow a b) (arrows_told arrow a b h k) (arrow_count arrow (length a) (length b)) count (arrows_counted arrow a b k) e

pub arrows_built : (arrow : Arrow) (a b : List Value) → IsAscending a → IsAscending b → (AreArrows arrow a b Out → ⊥) → (rows : List (List Value))
    → rows ≡ arrow_rows arrow a b → (r : Result Outcome AllocError) → IfOk r (λ o. o ≡ Is (SetOf (map SetOf rows))) → IfOk r (AreArrows arrow a b)
unfolding AreArrows
arrows_built arrow a b h k few rows e r g = built_result SetOf (IsArrow arrow a b) (arrow_rows arrow a b) rows (arrows_told arrow a b h k) few e r g

arrow_ascends : (arrow : Arrow) (a b r : List Value) → IsArrow arrow a b (SetOf r) → IsAscending r
unfolding IsArrow
arrow_ascends arrow a b r p = ascends r p.0 p.1 p.2

pub arrows_sets : (arrow : Arrow) (a b : List Value) → IsAscending a → IsAscending b → (rows : List (List Value)) → rows ≡ arrow_rows arrow a b → AreSets rows
arrows_sets arrow a b h k rows e = are_sets (IsArrow arrow a b) (arrow_rows arrow a b) rows (arrows_told arrow a b h k) (arrow_ascends arrow a b) e
