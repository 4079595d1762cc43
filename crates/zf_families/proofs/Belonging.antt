-- What the tests of pairs say of functions and injections.
use Rattle.zf_families.proofs.Prelude.{◌↔◌, ◌∙◌, ◌∷◌, ◌≡◌, [], ap, Bool, Equal, false, Greater, inl, inr, Less, List, Ordering, refl, subst, sym, true, ⊎_elim, and_from, and_parts, both_ways, false≢true, is_lt, ordering_reverse, IsTrue, every_at, not_below_itself, exact, members-SetOf, IsBetween, IsFunctional, IsInjective, IsSubset, pair, IsAscending, IsMember, members, value_order, AreAmong, SetOf, Value, outs-Tuple, fits_any, fits_apart, pairs, first, first_at, firsts_rise, IsGraph, seconds_apart, IsArrow, IsArrowFrom, IsOfKind, IsPairOn, AllByRecursion, total-law}
use Rattle.zf_tree.specs.declared.symbol.Arrow.{Arrow}
use Rattle.zf_tree.specs.declared.symbol.Arrow.TheVariants as kind
use Rattle.zf_families.proofs.Comparisons.{not_both, below_rest, pair_parts, first_below, member_map, from_member_map}
use Rattle.zf_families.proofs.Functions.{GoesAll, none_all, all_to, all_from}
use Rattle.zf_families.proofs.FunctionLaws.{functions, IsUnused, unused_from, unused_to, injective_more}

-- ---- firsts

first-pair : (x y : Value) → first (pair x y) ≡ x
first-pair x y = ap (first_at (pair x y)) (outs-Tuple (x ∷ y ∷ []))

lt_less : (o : Ordering) → is_lt o ≡ true → o ≡ Less
lt_less Less h = refl
lt_less Equal h = (cc)
lt_less Greater h = (cc)

lower : (z : Value) (r : List Value) → firsts_rise (z ∷ r) ≡ true → AllByRecursion (λ w. value_order (first z) (first w) ≡ Less) r
lower z [] h = tt
lower z (w ∷ r) h =
    let both = and_parts (is_lt (value_order (first z) (first w))) (firsts_rise (w ∷ r)) h in
    let here = lt_less (value_order (first z) (first w)) both.0 in
    (here, through w r here (lower w r both.1))
  where
    through : (w : Value) (us : List Value) → value_order (first z) (first w) ≡ Less → AllByRecursion (λ u. value_order (first w) (first u) ≡ Less) us → AllByRecursion (λ u. value_order (first z) (first u) ≡ Less) us
    through w [] l k = tt
    through w (u ∷ us) l k = (total-law.trans (first z) (first w) (first u) l k.0, through w us l k.1)

rise_rest : (z : Value) (r : List Value) → firsts_rise (z ∷ r) ≡ true → firsts_rise r ≡ true
rise_rest z [] h = refl
rise_rest z (w ∷ r) h = (and_parts (is_lt (value_order (first z) (first w))) (firsts_rise (w ∷ r)) h).1

pub functional_from : (r : List Value) → firsts_rise r ≡ true → IsFunctional r
functional_from [] h u v w m n = absurd m
functional_from (z ∷ r) h u v w m n =
    let low = lower z r h in
    let same : (y : Value) → z ≡ pair u y → (t : Value) → IsMember (pair u t) r → ⊥ = λ y e t k.
    not_below_itself u (subst (λ p. value_order p u ≡ Less) (ap first e ∙ first-pair u y)
    (subst (λ p. value_order (first z) p ≡ Less) (first-pair u t) (every_at (λ p. value_order (first z) (first p) ≡ Less) r (pair u t) low k))) in
    ⊎_elim
    (λ e. ⊎_elim (λ k. (pair_parts u v u w (sym e ∙ k)).1) (λ k. absurd (same v e w k)) n)
    (λ l. ⊎_elim (λ k. absurd (same w k v l)) (λ k. functional_from r (rise_rest z r h) u v w l k) n)
    m

tail_between : (a b : List Value) (z : Value) (r : List Value) → IsBetween a b (z ∷ r) → IsBetween a b r
tail_between a b z r h u m = h u (inr m)

functional_rest : (z : Value) (r : List Value) → IsFunctional (z ∷ r) → IsFunctional r
functional_rest z r h u v w m n = h u v w (inr m) (inr n)

pub functional_to : (a b r : List Value) → IsAscending r → IsBetween a b r → IsFunctional r → firsts_rise r ≡ true
functional_to a b [] h k f = refl
functional_to a b (z ∷ []) h k f = refl
functional_to a b (z ∷ w ∷ r) h k f =
    let p = k z (inl refl) in
    let q = k w (inr (inl refl)) in
    let firsts : value_order (first z) (first w) ≡ value_order p.0 q.0 =
    ap (λ u. value_order (first u) (first w)) p.2 ∙ ap (λ u. value_order (first (pair p.0 p.1)) (first u)) q.2
    ∙ ap (λ u. value_order u (first (pair q.0 q.1))) (first-pair p.0 p.1) ∙ ap (value_order p.0) (first-pair q.0 q.1) in
    let low : value_order z w ≡ Less = h.0.0 in
    and_from (is_lt (value_order (first z) (first w))) (firsts_rise (w ∷ r))
    (cases (value_order p.0 q.0) firsts refl
    (λ e.
    let x : p.0 ≡ q.0 = exact p.0 q.0 e in
    let there : IsMember (pair p.0 q.1) (z ∷ w ∷ r) = inr (inl (q.2 ∙ ap (λ u. pair u q.1) (sym x))) in
    let y : p.1 ≡ q.1 = f p.0 p.1 q.1 (inl p.2) there in
    not_below_itself z (subst (λ u. value_order z u ≡ Less) (q.2 ∙ ap (λ u. pair u q.1) (sym x) ∙ ap (pair p.0) (sym y) ∙ sym p.2) low))
    (λ e.
    let up : value_order q.0 p.0 ≡ Less = total-law.antisymm q.0 p.0 ∙ ap ordering_reverse e in
    not_both z w low (subst (λ u. value_order u z ≡ Less) (sym q.2) (subst (λ u. value_order (pair q.0 q.1) u ≡ Less) (sym p.2) (first_below q.0 q.1 p.0 p.1 up)))))
    (functional_to a b (w ∷ r) h.1 (tail_between a b z (w ∷ r) k) (functional_rest z (w ∷ r) f))
  where
    cases : (o : Ordering) → value_order (first z) (first w) ≡ o → o ≡ o → (o ≡ Equal → ⊥) → (o ≡ Greater → ⊥) → is_lt (value_order (first z) (first w)) ≡ true
    cases Less e g n m = ap is_lt e
    cases Equal e g n m = absurd (n refl)
    cases Greater e g n m = absurd (m refl)

-- ---- seconds

pub apart_from : (a b r : List Value) → IsBetween a b r → seconds_apart r ≡ true → IsInjective r
apart_from a b [] k h = λ u v w m n. absurd m
apart_from a b (z ∷ r) k h =
    let both = and_parts (fits_apart z r) (seconds_apart r) h in
    let p = k z (inl refl) in
    let fits : fits_apart (pair p.0 p.1) r ≡ true = subst (λ u. fits_apart u r ≡ true) p.2 both.0 in
    subst (λ u. IsInjective (u ∷ r)) (sym p.2) (injective_more p.0 p.1 r (unused_from p.0 p.1 r fits) (apart_from a b r (tail_between a b z r k) both.1))

pub apart_to : (a b r : List Value) → IsAscending r → IsBetween a b r → IsInjective r → seconds_apart r ≡ true
apart_to a b [] h k f = refl
apart_to a b (z ∷ r) h k f =
    let p = k z (inl refl) in
    let unused : IsUnused r p.1 = λ u m.
    let same : u ≡ p.0 = f u p.0 p.1 (inr m) (inl p.2) in
    not_below_itself z (subst (λ w. value_order z w ≡ Less) (ap (λ w. pair w p.1) same ∙ sym p.2) (below_rest z r (pair u p.1) h m)) in
    and_from (fits_apart z r) (seconds_apart r)
    (subst (λ u. fits_apart u r ≡ true) (sym p.2) (unused_to a b p.0 p.1 r (tail_between a b z r k) unused))
    (apart_to a b r h.1 (tail_between a b z r k) (λ u v w m n. f u v w (inr m) (inr n)))

-- ---- by kind

pub function_second : (a b r : List Value) → IsAscending r → IsBetween a b r → (t : Bool) → t ≡ firsts_rise r → IsTrue t ↔ IsArrowFrom kind.PartialFunction a b r
unfolding IsArrowFrom
function_second a b r h k t e = (λ g. (k, functional_from r (sym e ∙ g)), λ p. e ∙ functional_to a b r h k p.1)

pub function_first : (a b r : List Value) (t : Bool) → IsTrue t ↔ IsBetween a b r → t ≡ false → IsTrue t ↔ IsArrowFrom kind.PartialFunction a b r
unfolding IsArrowFrom
function_first a b r t h f = (λ g. absurd (both_ways t f g), λ p. h.1 p.0)

pub relation_at : (a b r : List Value) (t : Bool) → IsTrue t ↔ IsBetween a b r → IsTrue t ↔ IsArrowFrom kind.Relation a b r
unfolding IsArrowFrom
relation_at a b r t h = (λ g. (h.0 g, tt), λ p. h.1 p.0)

pub injection_second : (a b r : List Value) → IsAscending r → IsArrowFrom kind.PartialFunction a b r → (t : Bool) → t ≡ seconds_apart r → IsTrue t ↔ IsArrowFrom kind.PartialInjection a b r
unfolding IsArrowFrom
injection_second a b r h k t e = (λ g. (k.0, (k.1, apart_from a b r k.0 (sym e ∙ g))), λ p. e ∙ apart_to a b r h k.0 p.1.1)

pub injection_first : (a b r : List Value) (t : Bool) → IsTrue t ↔ IsArrowFrom kind.PartialFunction a b r → t ≡ false → IsTrue t ↔ IsArrowFrom kind.PartialInjection a b r
unfolding IsArrowFrom
injection_first a b r t h f = (λ g. absurd (both_ways t f g), λ p. h.1 (p.0, p.1.0))

-- ---- total ones

pub graph_to : (a b r : List Value) → IsAscending a → GoesAll b fits_any IsFunctional functions a r → IsGraph b a r
unfolding IsPairOn
graph_to [] b [] h g = tt
graph_to [] b (z ∷ r) h g = let e = (none_all b fits_any IsFunctional functions (z ∷ r)).0 g in (cc)
graph_to (x ∷ a) b r h g =
    let t = all_to b fits_any IsFunctional functions x a r h g in
    let y = from_member_map (pair x) b t.0 t.3 in
    subst (IsGraph b (x ∷ a)) t.2 ((y.0, sym y.1, y.2), graph_to a b t.1 h.1 t.4)

pub graph_from : (a b r : List Value) → IsAscending a → IsGraph b a r → GoesAll b fits_any IsFunctional functions a r
unfolding IsPairOn
graph_from [] b [] h g = (none_all b fits_any IsFunctional functions []).1 refl
graph_from [] b (z ∷ r) h g = absurd g
graph_from (x ∷ a) b [] h g = absurd g
graph_from (x ∷ a) b (z ∷ r) h g =
    all_from b fits_any IsFunctional functions x a (z ∷ r) h (z, r, refl, subst (λ u. IsMember u (pairs b x)) (sym g.0.1) (member_map (pair x) b g.0.0 g.0.2), graph_from a b r h.1 g.1, refl)

pub total_at : (a b r : List Value) (t : Bool) → IsAscending a → IsAscending r → IsTrue t ↔ IsGraph b a r → IsTrue t ↔ IsArrowFrom kind.TotalFunction a b r
unfolding IsArrowFrom
total_at a b r t h g k = (λ m. let q = graph_from a b r h (k.0 m) in (q.0.1, (q.0.2, q.1)), λ p. k.1 (graph_to a b r h ((g, p.0, p.1.0), p.1.1)))

pub total_injection_at : (a b r : List Value) (t : Bool) → IsAscending a → IsAscending r → IsGraph b a r → t ≡ seconds_apart r → IsTrue t ↔ IsArrowFrom kind.TotalInjection a b r
unfolding IsArrowFrom
total_injection_at a b r t h g k s =
    let q = graph_from a b r h k in
    (λ m. (q.0.1, (q.0.2, apart_from a b r q.0.1 (sym s ∙ m), q.1)), λ p. s ∙ apart_to a b r g p.0 p.1.1)

pub no_total_injection : (a b r : List Value) (t : Bool) → IsAscending a → IsAscending r → IsTrue t ↔ IsGraph b a r → t ≡ false → IsTrue t ↔ IsArrowFrom kind.TotalInjection a b r
unfolding IsArrowFrom
no_total_injection a b r t h g k f = (λ m. absurd (both_ways t f m), λ p. k.1 (graph_to a b r h ((g, p.0, p.1.0), p.1.2)))

-- ---- values

same_pairs : (r s : List Value) → SetOf r ≡ SetOf s → r ≡ s
same_pairs r s e = sym (members-SetOf r) ∙ ap members e ∙ members-SetOf s

pub arrow_at : (arrow : Arrow) (a b r : List Value) (v : Value) (t : Bool) → v ≡ SetOf r → IsAscending r → IsTrue t ↔ IsArrowFrom arrow a b r → IsTrue t ↔ IsArrow arrow a b v
unfolding IsArrow IsArrowFrom
arrow_at arrow a b r v t e h k = (
  λ g. let p = k.0 g in (r, e, h, p.0, p.1),
  λ p. k.1 (subst (λ s. IsBetween a b s × IsOfKind arrow a s) (same_pairs p.0 r (sym p.1 ∙ e)) (p.3, p.4)),
)

pub no_arrow : (arrow : Arrow) (a b : List Value) (v : Value) → ((r : List Value) → v ≡ SetOf r → ⊥) → IsTrue false ↔ IsArrow arrow a b v
unfolding IsArrow
no_arrow arrow a b v h = (λ e. absurd (false≢true e), λ p. absurd (h p.0 p.1))

pub subset_at : (a r : List Value) (v : Value) (t : Bool) → v ≡ SetOf r → IsAscending r → IsTrue t ↔ AreAmong r a → IsTrue t ↔ IsSubset a v
subset_at a r v t e h k = (
  λ g. (r, e, h, k.0 g),
  λ p. k.1 (subst (λ s. AreAmong s a) (same_pairs p.0 r (sym p.1 ∙ e)) p.3),
)

pub no_subset : (a : List Value) (v : Value) → ((r : List Value) → v ≡ SetOf r → ⊥) → IsTrue false ↔ IsSubset a v
no_subset a v h = (λ e. absurd (false≢true e), λ p. absurd (h p.0 p.1))
