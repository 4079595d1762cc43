use Rattle.zf_enum.proofs.Prelude.{◌≡◌, ◌-◌, ◌<◌, AllPairs, arith, get_or, length, Less, List, rules, subst, ℕ, Value, value_order, Contains, FitsSigned, w32, ints, zero-*ℤ}
use Rattle.zf_enum.proofs.Balanced.{over}
use Rattle.zf_enum.proofs.sums.interval_over.Goals as goal

pub returns : goal.returns
returns c = λ w m.
    let v = c.range.inside.values in
    let xs = v.items in
    let same : c.args.range.now ≡ xs = (cc) in
    let count : c.len-count.result ≡ length xs = omega (arith, c.len-count.ensures, v.ok.0) in
    let some : 0 < length xs = omega (arith, count, c.if-count-eq0.false) in
    let last = subst (λ (n : ℕ). c.index-2.result.now ≡ get_or xs (n - 1) c.index-2.result.now) count c.index-2.ensures in
    let f : FitsSigned w32 c.in-Some.low = search rules in
    let g : FitsSigned w32 c.in-Some-small.high = search rules in
    let r = over xs w c.index.result.now c.index-2.result.now c.in-Some.low c.in-Some-small.high
    (subst (λ (ys : List Value). AllPairs (λ a b. value_order a b ≡ Less) ys) same c.requires) some c.index.ensures last c.in-Some.ensures
    c.in-Some-small.ensures
    (subst (λ (ys : List Value). Contains ys w) same m) in
    (r.0, r.1, λ u. let z = zero-*ℤ u in (omega (arith, ints, z, r.2, f), omega (arith, ints, z, r.3, g)))
