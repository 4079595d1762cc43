use Rattle.zf_value.proofs.Prelude.{arith, subst, sym, ints, SET_MAX, ℤ, pos, ◌+ℤ◌, FitsSigned}
use Rattle.std.specs.Int.{w64}
use Rattle.zf_value.proofs.Exactly.{same, past_fits}
use Rattle.zf_value.proofs.number.is_too_wide.Goals as goal

pub returns-in-Some : goal.returns-in-Some
returns-in-Some c = (λ b. grind (arith, ints), λ l. grind (arith, ints))

pub returns-in-None : goal.returns-in-None
returns-in-None c = (
  λ b. (cc),
  λ l. absurd (c.in-None.ensures (subst (λ (x : ℤ). FitsSigned w64 (x +ℤ pos SET_MAX)) (sym (same c.args.from c.ranges.from))
      (past_fits c.args.from c.args.to c.ranges.from c.ranges.to l))),
)
