use Rattle.std.proofs.Math.Pow.{pow-lt}
use Rattle.zf_plan.proofs.Prelude.{◌-◌, ◌≡◌, arith, subst, sym, ◌*◌, ◌%◌, ◌^◌, bit_at_ones, HasBit}
use Rattle.zf_plan.proofs.blame.first_bits.Goals as goal

pub returns : goal.returns
returns c = λ i low.
    let small : 1 * 2 ^ c.args.number % 18446744073709551616 ≡ 2 ^ c.args.number = omega (arith, pow-lt c.requires) in
    subst (λ n. HasBit (n - 1) i) (sym small) (bit_at_ones c.args.number i low)
