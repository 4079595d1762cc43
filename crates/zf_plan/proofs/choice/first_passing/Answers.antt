use Rattle.zf_plan.proofs.Prelude.{◌∙◌, ◌≡◌, arith, false, true, subst, sym, cases_lt, false≢true, get_or_from_slice_get, inl, inr, slice_get_within, Contains, passing}
use Rattle.zf_plan.proofs.Sieving.{is-passing}
use Rattle.zf_plan.proofs.choice.first_passing.Goals as goal

pub loop-place-init : goal.loop-place-init
loop-place-init c = λ i up low m. omega arith

pub loop-place-preserved : goal.loop-place-preserved
loop-place-preserved c = λ i up low m. elim (cases_lt i c.loop-place.place) [
  | inl before ↦ c.loop-place.invariant i up before m
  | inr here ↦
      let passes = c.args.passes.now in
      let e : i ≡ c.loop-place.place = omega arith in
      false≢true (sym c.if-passes-place.false ∙ get_or_from_slice_get passes c.loop-place.place true false (is-passing passes c.loop-place.place (subst (Contains (passing 0 passes)) e m)))
]

pub returns-clause-skipped : goal.returns-clause-skipped
returns-clause-skipped c = λ i up low m. elim (cases_lt i c.loop-place.place) [
  | inl before ↦ c.loop-place.invariant i up before m
  | inr far ↦ omega (arith, slice_get_within c.args.passes.now i true (is-passing c.args.passes.now i m), c.min-place-end.ensures, c.loop-place.auto.place-end, c.loop-place-test.false, low, far)
]
