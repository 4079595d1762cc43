use Rattle.zf_plan.proofs.Prelude.{◌≡◌, ap, arith, get_or, inl, inr, cases_lt}
use Rattle.zf_plan.proofs.sieve.greatest.Goals as goal

pub loop-i-init : goal.loop-i-init
loop-i-init c = (λ j h. absurd (omega arith), λ n h. omega arith)

pub loop-i-preserved : goal.loop-i-preserved
loop-i-preserved c =
    let numbers = c.args.numbers.now in
    let now = c.loop-i.invariant in (
      λ j h. elim (cases_lt j c.loop-i.i) [
        | inl old ↦ let b = now.0 j old in omega (arith, b, c.max-most.ensures)
        | inr new ↦ let e : j ≡ c.loop-i.i = omega arith in omega (arith, ap (λ i. get_or numbers i 0) e, c.max-most.ensures)
      ],
      λ n h. let a = now.1 n h in let b = h c.loop-i.i c.loop-i-test.true in omega (arith, a, b, c.max-most.ensures),
    )

pub returns : goal.returns
returns c = record { all = λ i h. c.loop-i.invariant.0 i (omega (arith, h, c.loop-i-test.false)); least = λ n h. c.loop-i.invariant.1 n h }
