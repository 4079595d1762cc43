use Rattle.zf_enum.proofs.Prelude.{◌≡◌, ◌∙◌, ap, arith, rules, sym, FitsSigned, w32, w64, ints, to_z-of_z, Int, is_Int}
use Rattle.zf_enum.proofs.sums.small.Goals as goal

pub returns-in-Ok : goal.returns-in-Ok
returns-in-Ok c =
    let f : FitsSigned w64 c.in-Some.n = search rules in
    let g : FitsSigned w32 c.in-Ok.n = search rules in
    let same : c.in-Ok.n ≡ c.in-Some.n = omega (arith, ints, f, c.in-Ok.ensures.1) in
    is_Int c.args.value.now c.in-Some.n (sym c.in-Some.is ∙ c.number.ensures) ∙ ap Int (sym (to_z-of_z w32 c.in-Ok.n g ∙ same))
