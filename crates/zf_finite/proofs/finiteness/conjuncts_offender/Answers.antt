use Rattle.zf_finite.proofs.Prelude.{◌≡◌, ap, flat_map, map, None, subst, sym, conjunct_of, globals_of, first, offending, unless}
use Rattle.zf_finite.proofs.FiniteSchemas.{none_where_ended}
use Rattle.zf_finite.proofs.finiteness.conjuncts_offender.Goals as goal

pub returns-in-Some : goal.returns-in-Some
returns-in-Some c =
    let g = globals_of c.args.globals.now in
    let ts = map conjunct_of c.args.conjuncts.now in
    subst (λ n. None ≡ first (flat_map (λ t. unless n (offending g t)) ts)) (sym c.in-Some.is) (sym (ap first (none_where_ended c.in-Some.field-0 g ts)))
