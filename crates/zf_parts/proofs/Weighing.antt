-- What is weighed of components, from the last one on, and what is numbered of their values.
use Rattle.zf_parts.proofs.Prelude.{◌+◌, ◌<◌, ◌∙◌, ◌∷◌, ◌≡◌, [], ap, arith, length, List, subst, sym, ℕ, All, Value, values_at, ◌*◌, ◌≤◌, drop, get_or, add_comm, drop_more, slice_get, slice_index_or, AreWeights, IsNumber, ranges_at, total, weights}
use Rattle.zf_parts.specs.declared.weights.Weights.{Weights}
use Rattle.zf_parts.proofs.Numbering.{fewer_behind, number_below, one_more, weight_at}
use Rattle.zf_parts.proofs.Told.{got}

module _ (ranges : List (List Value)) (places : List ℕ) where
  pub record Weighing (i : ℕ) (each : List ℕ) (count : ℕ) : Type 0 where
    pub near : i ≤ length places
    pub long : length each ≡ length places
    pub below : All (λ p. p < length ranges) (drop i places)
    pub are : drop i each ≡ weights (ranges_at ranges (drop i places))
    pub is : count ≡ total (ranges_at ranges (drop i places))
    pub some : 0 < count
    pub few : count ≤ 134217728

  pub weighed : (i : ℕ) (w : Weights) → i ≡ 0 → Weighing i w.each.items w.count → AreWeights ranges places w
  weighed i w none h =
      let all : Weighing 0 w.each.items w.count = subst (λ k. Weighing k w.each.items w.count) none h in
      record { below = all.below; each = all.are; count = all.is; some = all.some; few = all.few }

-- ---- numbers

module _ (ranges : List (List Value)) (places : List ℕ) (row : List Value) where
  pub record Numbering (i number : ℕ) : Type 0 where
    pub near : i ≤ length places
    pub is : IsNumber (ranges_at ranges (drop i places)) (values_at (drop i places) row) number

  pub numbered : (i number : ℕ) → i ≡ 0 → Numbering i number → IsNumber (ranges_at ranges places) (values_at places row) number
  numbered i number none h = let all : Numbering 0 number = subst (λ k. Numbering k number) none h in all.is

  module _ (i j : ℕ) (next : i ≡ j + 1) (w : Weights) (weighs : AreWeights ranges places w) (number : ℕ) (h : Numbering i number) (p d weight : ℕ) (at : p ≡ get_or places j p)
      (there : slice_get row p ≡ slice_get (slice_index_or ranges p []) d) (near : p < length row) (is : weight ≡ get_or w.each.items j weight) where
    weight_is : weight ≡ total (ranges_at ranges (drop i places))
    weight_is =
        let low = h.near in
        is ∙ ap (λ ws. get_or ws j weight) weighs.each ∙ weight_at ranges places j weight (omega (arith, next, low)) ∙ ap (λ k. total (ranges_at ranges (drop k places))) (sym next)

    pub numbering_next : Numbering j (number + d * weight)
    numbering_next =
        let low = h.near in
        let rest : drop j places ≡ p ∷ drop i places = drop_more places j p (omega (arith, next, low)) ∙ ap (λ k. get_or places j p ∷ drop k places) (sym next) ∙ ap (λ q. q ∷ drop i places) (sym at) in
        let (v, stands) = got row p near in
        let more = one_more ranges row p (drop i places) v d number stands (sym there ∙ stands) h.is in
        let same : d * total (ranges_at ranges (drop i places)) + number ≡ number + d * weight =
        add_comm (d * total (ranges_at ranges (drop i places))) number ∙ ap (λ t. number + d * t) (sym weight_is) in
        record {
          near = omega (arith, next, low);
          is = subst (λ ps. IsNumber (ranges_at ranges ps) (values_at ps row) (number + d * weight)) (sym rest)
              (subst (IsNumber (ranges_at ranges (p ∷ drop i places)) (values_at (p ∷ drop i places) row)) same more);
        }

    pub numbering_small : number + d * weight < 134217728
    numbering_small =
        let more = numbering_next in
        let below = number_below (ranges_at ranges (drop j places)) (values_at (drop j places) row) (number + d * weight) more.is in
        let whole : 0 < total (ranges_at ranges places) = subst (λ t. 0 < t) weighs.count weighs.some in
        omega (arith, below, fewer_behind ranges places j whole, weighs.count, weighs.few)
