-- The tests of members: what each turn and each end shows.
use Rattle.zf_families.proofs.Prelude.{◌+◌, ◌-◌, ◌<◌, ◌↔◌, ◌∙◌, ◌∷◌, ◌≡◌, ◌≤◌, [], add-one, ap, arith, Bool, drop, false, get_or, length, List, refl, subst, suc, sym, take, true, ℕ, ⊎_elim, both_ways, false≢true, length-drop, IsTrue, member_at, members-take_more, IsBetween, pair, IsMember, Value, firsts_rise, IsGraph, IsPairFrom, IsPairOn}
use Rattle.zf_families.proofs.Comparisons.{pair_parts}

-- what is not so is what false says
pub never : (P : Type 0) → (P → ⊥) → IsTrue false ↔ P
never P h = (λ e. absurd (false≢true e), λ p. absurd (h p))

pub pair_from_second : (a b : List Value) (x y z : Value) (t : Bool) → z ≡ pair x y → IsMember x a → IsTrue t ↔ IsMember y b → IsTrue t ↔ IsPairFrom a b z
unfolding IsPairFrom
pair_from_second a b x y z t e m h = (
  λ k. (x, y, e, m, h.0 k),
  λ p. h.1 (subst (λ u. IsMember u b) (sym (pair_parts x y p.0 p.1 (sym e ∙ p.2)).1) p.4),
)

pub pair_from_first : (a b : List Value) (x y z : Value) (t : Bool) → z ≡ pair x y → IsTrue t ↔ IsMember x a → t ≡ false → IsTrue t ↔ IsPairFrom a b z
unfolding IsPairFrom
pair_from_first a b x y z t e h f = (
  λ k. absurd (both_ways t f k),
  λ p. h.1 (subst (λ u. IsMember u a) (sym (pair_parts x y p.0 p.1 (sym e ∙ p.2)).0) p.3),
)

pub pair_from_none : (a b : List Value) (z : Value) → ((x y : Value) → z ≡ pair x y → ⊥) → IsTrue false ↔ IsPairFrom a b z
unfolding IsPairFrom
pair_from_none a b z h = never ((x y : Value) × (z ≡ pair x y) × IsMember x a × IsMember y b) (λ p. h p.0 p.1 p.2)

pub pair_on_second : (x : Value) (b : List Value) (u y z : Value) (t : Bool) → z ≡ pair u y → u ≡ x → IsTrue t ↔ IsMember y b → IsTrue t ↔ IsPairOn x b z
unfolding IsPairOn
pair_on_second x b u y z t e s h = (
  λ k. (y, e ∙ ap (λ w. pair w y) s, h.0 k),
  λ p. h.1 (subst (λ w. IsMember w b) (sym (pair_parts u y x p.0 (sym e ∙ p.1)).1) p.2),
)

pub pair_on_first : (x : Value) (b : List Value) (u y z : Value) (t : Bool) → z ≡ pair u y → IsTrue t ↔ (u ≡ x) → t ≡ false → IsTrue t ↔ IsPairOn x b z
unfolding IsPairOn
pair_on_first x b u y z t e h f = (
  λ k. absurd (both_ways t f k),
  λ p. h.1 (pair_parts u y x p.0 (sym e ∙ p.1)).0,
)

pub pair_on_none : (x : Value) (b : List Value) (z : Value) → ((u y : Value) → z ≡ pair u y → ⊥) → IsTrue false ↔ IsPairOn x b z
unfolding IsPairOn
pair_on_none x b z h = never ((y : Value) × (z ≡ pair x y) × IsMember y b) (λ p. h x p.0 p.1)

-- ---- between two sets

pub between_more : (a b r : List Value) (i : ℕ) (z : Value) → i < length r → z ≡ get_or r i z → IsPairFrom a b z → IsBetween a b (take i r) → IsBetween a b (take (i + 1) r)
unfolding IsPairFrom
between_more a b r i z l e p h u m =
    ⊎_elim (λ n. h u n) (λ s. subst (λ w. (x y : Value) × (w ≡ pair x y) × IsMember x a × IsMember y b) s p)
    ((members-take_more r i z e l u).0 (subst (λ n. IsMember u (take n r)) (add-one i) m))

pub not_between : (a b r : List Value) (i : ℕ) (z : Value) → i < length r → z ≡ get_or r i z → (IsPairFrom a b z → ⊥) → IsBetween a b r → ⊥
unfolding IsPairFrom
not_between a b r i z l e n h = n (h z (member_at r i z e l))

-- ---- graphs, and firsts

pub graph_length : (b a r : List Value) → IsGraph b a r → length r ≡ length a
graph_length b [] [] g = refl
graph_length b [] (z ∷ r) g = absurd g
graph_length b (x ∷ a) [] g = absurd g
graph_length b (x ∷ a) (z ∷ r) g = ap suc (graph_length b a r g.1)

short_rises : (r : List Value) → length r ≤ 1 → firsts_rise r ≡ true
short_rises [] h = refl
short_rises (z ∷ []) h = refl
short_rises (z ∷ w ∷ r) h = absurd (omega arith)

pub rise_end : (r : List Value) (k : ℕ) → length r ≤ k + 1 → firsts_rise (drop k r) ≡ true
rise_end r k h = short_rises (drop k r) (let e : length (drop k r) ≡ length r - k = length-drop k r in omega (arith, e, h))
