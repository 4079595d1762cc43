use Rattle.zf_plan.proofs.Prelude.{◌++◌, ◌∷◌, ◌≡◌, ◌∙◌, [], ap, arith, Contains, get_or, inl, inr, List, subst, sym, ℕ, cases_eq, Global, Vec}
use Rattle.zf_plan.proofs.Keying.{has-push, stays-push}
use Rattle.zf_plan.proofs.keys.gather_keyed.Goals as goal
use Rattle.zf_plan.proofs.keys.gather_keyed.Goals.{then-keys-place+in_ok-push, else-keys-place}

pub returns-in_err-push-clause-stay : goal.returns-in_err-push-clause-stay
returns-in_err-push-clause-stay c = λ i m. subst (λ (xs : List ℕ). Contains xs i) (sym c.in_err-push.ensures.items) (c.loop-place.invariant.0 i m)

pub loop-place-preserved : goal.loop-place-preserved
loop-place-preserved c = elim c.if-keys-place.branch [
  | then-keys-place+in_ok-push w ↦
      let xs = c.loop-place.gathered.items in
      let place = c.loop-place.place in
      let now : c.if-keys-place.gathered.items ≡ xs ++ place ∷ [] = ap (λ (v : Vec ℕ Global). v.items) w.gathered-is ∙ w.in_ok-push.ensures.items in (
        λ i m. subst (λ (ys : List ℕ). Contains ys i) (sym now) (stays-push xs place i (c.loop-place.invariant.0 i m)),
        λ i low e. subst (λ (ys : List ℕ). Contains ys i) (sym now) (elim (cases_eq i place) [
          | inl same ↦ subst (Contains (xs ++ place ∷ [])) (sym same) (has-push xs place)
          | inr other ↦ stays-push xs place i (c.loop-place.invariant.1 i (omega arith) e)
        ]),
      )
  | else-keys-place w ↦
      let now : c.if-keys-place.gathered.items ≡ c.loop-place.gathered.items = ap (λ (v : Vec ℕ Global). v.items) w.gathered-is in (
        λ i m. subst (λ (ys : List ℕ). Contains ys i) (sym now) (c.loop-place.invariant.0 i m),
        λ i low e. elim (cases_eq i c.loop-place.place) [
          | inl same ↦ absurd (w.if-keys-place.false (subst (λ j. get_or c.args.keys.now j 0 ≡ c.args.wanted) same e))
          | inr other ↦ subst (λ (ys : List ℕ). Contains ys i) (sym now) (c.loop-place.invariant.1 i (omega arith) e)
        ],
      )
]

pub returns : goal.returns
returns c = record {
  stay = c.loop-place.invariant.0;
  all = λ i low e. c.loop-place.invariant.1 i (omega (arith, low, c.loop-place-test.false, c.loop-place.auto.place-end)) e;
}
