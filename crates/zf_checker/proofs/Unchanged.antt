-- What `\Xi` adds to `\Delta`.
use Rattle.zf_checker.proofs.Prelude.{◌++◌, ◌+◌, ◌∙◌, ◌∷◌, ◌≡◌, [], ap, arith, List, refl, slice_get, Some, suc, zero, ℕ, none-some, same_Some, slice_get-map, option_map, Comp, Ty, all_unchanged, comp, decorated, new_place, prime, unchanged, with_comps, signature, StandsAt, XiEquates, decorated_once, Span}
use Rattle.zf_checker.proofs.FirstComponents.{more}
use Rattle.zf_checker.proofs.Fronts.{in_front}
use Rattle.zf_checker.proofs.Joined.{carried_place}

-- the equation at a place
equation_at :
    (l : Span) (primed all : List Comp) (k : ℕ) (cs : List Comp) (i : ℕ) (c : Comp) → slice_get cs i ≡ Some c
    → slice_get (all_unchanged l primed all k cs) i ≡ Some (unchanged l primed all (k + i))
equation_at l primed all k [] i c at = absurd (none-some c at)
equation_at l primed all k (d ∷ cs) zero c at =
    let here : k ≡ k + zero = omega arith in
    ap (λ n. Some (unchanged l primed all n)) here
equation_at l primed all k (d ∷ cs) (suc i) c at =
    let next : k + 1 + i ≡ k + suc i = omega arith in
    equation_at l primed all (k + 1) cs i c at ∙ ap (λ n. Some (unchanged l primed all n)) next

-- a component of this signature
of_signature : (cs : List Comp) (i : ℕ) (c : Comp) → slice_get (signature cs) i ≡ Some (c.name, c.type) → StandsAt cs i c
of_signature [] i c at = absurd (none-some (c.name, c.type) at)
of_signature (d ∷ cs) zero c at =
    let same = same_Some (d.name, d.type) (c.name, c.type) at in
    (d, refl, ap (λ s. s.0) same, ap (λ s. s.1) same)
of_signature (d ∷ cs) (suc i) c at = of_signature cs i c at

abbrev entry : Comp → List ℕ × Ty
entry c = (c.name, c.type)

abbrev primed_one : Comp → Comp
primed_one c = comp (c.name ++ prime) c.type c.sets

pub xi_equates : XiEquates
xi_equates l a i c once agreed at =
    let primed = (decorated prime a).comps in
    let all = with_comps a.comps primed in
    let first = more a.comps primed in
    let here = slice_get-map entry a.comps i ∙ ap (option_map entry) at in
    let stands = ap (λ s. slice_get s i) first.1 ∙ in_front (signature a.comps) first.0 i (c.name, c.type) here in
    let there = slice_get-map primed_one a.comps i ∙ ap (option_map primed_one) at in
    let zero_on : 0 + i ≡ i = omega arith in (
      new_place primed all i,
      equation_at l primed all 0 a.comps i c at ∙ ap (λ n. Some (unchanged l primed all n)) zero_on,
      of_signature all i c stands,
      carried_place a.comps primed i (comp (c.name ++ prime) c.type c.sets) (decorated_once prime a once) agreed there,
    )
