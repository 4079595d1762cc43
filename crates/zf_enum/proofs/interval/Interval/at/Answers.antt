use Rattle.zf_enum.proofs.Prelude.{rules, arith, ◌≡◌, FitsSigned, w32, ints}
use Rattle.zf_enum.proofs.Spanning.{line_told, line_same}
use Rattle.zf_enum.proofs.interval.Interval.at.Goals as goal

pub overflow_add-result : goal.overflow_add-result
overflow_add-result c =
    let f : FitsSigned w32 c.args.self.times = search rules in
    let g : FitsSigned w32 c.args.value = c.ranges.value in
    let h : FitsSigned w32 c.args.end = c.ranges.end in
    let x : c.from.result ≡ c.args.self.times = omega (arith, ints, c.from.ensures) in
    let y : c.from-2.result ≡ c.args.value = omega (arith, ints, c.from-2.ensures) in
    let z : c.from-3.result ≡ c.args.end = omega (arith, ints, c.from-3.ensures) in
    line_told c.from.result c.from-2.result c.from-3.result c.args.self.times c.args.value c.args.end x y z f g h

pub returns : goal.returns
returns c =
    let f : FitsSigned w32 c.args.self.times = search rules in
    let g : FitsSigned w32 c.args.value = c.ranges.value in
    let h : FitsSigned w32 c.args.end = c.ranges.end in
    let x : c.from.result ≡ c.args.self.times = omega (arith, ints, c.from.ensures) in
    let y : c.from-2.result ≡ c.args.value = omega (arith, ints, c.from-2.ensures) in
    let z : c.from-3.result ≡ c.args.end = omega (arith, ints, c.from-3.ensures) in
    line_same c.from.result c.from-2.result c.from-3.result c.args.self.times c.args.value c.args.end x y z f g h
