use Rattle.zf_enum.proofs.Prelude.{◌∙◌, ap, arith, rules, subst, sym, FitsSigned, w32, w64, cast_signed, cast_unsigned, ints, to_z-of_z, Int}
use Rattle.zf_enum.proofs.sums.is_possible_with.Goals as goal

pub returns : goal.returns
returns c = λ no.
    let f : FitsSigned w32 c.in-Some.n = search rules in
    let same = to_z-of_z w32 c.in-Some.n f in
    let lo : FitsSigned w32 c.args.interval.low = search rules in
    let hi : FitsSigned w32 c.args.interval.high = search rules in
    let fl : FitsSigned w64 c.at.result = search rules in
    let fh : FitsSigned w64 c.at-2.result = search rules in (
      cast_signed w32 (cast_unsigned w32 c.in-Some.n),
      c.is_possible.ensures.membership no,
      c.in-Some.ensures ∙ ap Int (sym same),
      subst (FitsSigned w32) (sym same) f,
      λ a b p h. c.is_possible.ensures.ruled_out no a b (omega (arith, ints, c.at.ensures, p.0, fl)) (omega (arith, ints, c.at-2.ensures, p.1, fh)) h,
    )
