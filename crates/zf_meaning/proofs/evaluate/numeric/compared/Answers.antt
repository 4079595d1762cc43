use Rattle.zf_meaning.proofs.Prelude.{arith, map, rules, subst, sym, w64, FitsSigned, Is, Int, chain, links, resolved_link_of, resolved_of, environment_of, IsTruth, Holds, IsAtom, in_row, written-both}
use Rattle.zf_meaning.proofs.Numeric.{compared-told, one-link}
use Rattle.zf_meaning.proofs.evaluate.numeric.compared.Goals as goal

pub returns : goal.returns
returns g c =
    let k = c.link-item in
    let scope = in_row (environment_of c.args.env.now) (g.R.Row.values c.args.row.now) in
    let one = one-link c.args.links.now k.result (omega (arith, c.in-len1.len_at_least)) (omega (arith, c.in-len1.len_below)) k.is in
    let f : FitsSigned w64 c.in_ok-m.m = search rules in
    let h : FitsSigned w64 c.in_ok-n.n = search rules in
    let told = written-both (λ x y. IsAtom (Is (Int x)) (Is (Int y)) (Holds k.result.relation) c.between_numbers.result) c.in_ok-m.m c.in_ok-n.n f h c.between_numbers.ensures in
    λ span. subst (λ ks. IsTruth scope (chain span (resolved_of c.args.first.now) (links (map resolved_link_of ks))) c.between_numbers.result) (sym one)
    (compared-told scope span (resolved_of c.args.first.now) k.result c.in_ok-m.m c.in_ok-n.n c.between_numbers.result
    (c.is_comparison.ensures c.if-not-is_comparison.false) c.in_ok-m.ensures c.in_ok-n.ensures told)
