-- From what is picked of components and conjuncts to why there is no binding.
use Rattle.zf_why.proofs.Prelude.{◌∷◌, ◌≡◌, [], drop, List, Option, refl, Some, subst, suc, sym, zero, ℕ, slice_get, Comp, Value, Environment, first_held, later_held, HasRow, HasNoValue, HasValue, IsInHeldRange, IsHeldRow, RuleOut, Decides, OneOf, Bool, true, false, Result, Ok, Err, IfOk, IfSome}

pub held_later : (i : ℕ) (held : List (Option Value)) → first_held (drop (suc i) held) ≡ first_held (drop i (later_held held))
held_later zero [] = refl
held_later (suc i) [] = refl
held_later i (h ∷ held) = refl

-- where each component has a value there is a row
pub some_row : (e : Environment) (cs : List Comp) (held : List (Option Value)) → ((i : ℕ) (c : Comp) → slice_get cs i ≡ Some c → HasValue e held i c) → HasRow e cs held []
some_row e cs held h = let r = of cs held h in record { row = r.0; within = r.1; allowed = tt } where
  of : (cs : List Comp) (held : List (Option Value)) → ((i : ℕ) (c : Comp) → slice_get cs i ≡ Some c → HasValue e held i c) → (row : List Value) × IsHeldRow e cs held row
  of [] held h = ([], tt)
  of (c ∷ cs) held h =
      let v = h zero c refl in
      let rest = of cs (later_held held) (λ i d at. let w = h (suc i) d at in (w.0, subst (λ o. IsInHeldRange e d o w.0) (held_later i held) w.1)) in
      (v.0 ∷ rest.0, (v.1, rest.1))

-- a row of one component is a value of it, and back
pub value_of : (e : Environment) (c : Comp) (held : List (Option Value)) → HasRow e (c ∷ []) held [] → (v : Value) × IsInHeldRange e c (first_held held) v
value_of e c held h = of h.row h.within where
  of : (row : List Value) → IsHeldRow e (c ∷ []) held row → (v : Value) × IsInHeldRange e c (first_held held) v
  of [] w = absurd w
  of (v ∷ row) w = (v, w.0)

pub no_value : (e : Environment) (c : Comp) (held : List (Option Value)) → RuleOut e (c ∷ []) held [] → (v : Value) → IsInHeldRange e c (first_held held) v → ⊥
no_value e c held none v is = none (record { row = v ∷ []; within = (is, tt); allowed = tt })

-- whether a component has a value, from whether there is a row of it alone
pub value_decided : (e : Environment) (cs : List Comp) (held : List (Option Value)) (i : ℕ) (c : Comp) (from : List (Option Value)) {E : Type 0}
    (r : Result Bool E) → slice_get cs i ≡ Some c → from ≡ drop i held
    → IfOk r (Decides e (c ∷ []) from []) → IfOk r (λ has. IfSome (slice_get cs i) (λ d. OneOf (HasValue e held i d) (HasNoValue e held i d) has))
value_decided e cs held i c from (Err x) at is h = tt
value_decided e cs held i c from (Ok true) at is h = rw at (let v = value_of e c from h in (v.0, subst (λ k. IsInHeldRange e c (first_held k) v.0) is v.1))
value_decided e cs held i c from (Ok false) at is h = rw at (λ v in_range. no_value e c from h v (subst (λ k. IsInHeldRange e c (first_held k) v) (sym is) in_range))
