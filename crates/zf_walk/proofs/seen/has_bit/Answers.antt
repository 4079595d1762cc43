use Rattle.zf_walk.proofs.Prelude.{arith, bit_at_above}
use Rattle.zf_walk.proofs.seen.has_bit.Goals as goal

pub returns-else-place-lt64-clause-all : goal.returns-else-place-lt64-clause-all
returns-else-place-lt64-clause-all c = λ h. absurd (let z = bit_at_above c.args.word 64 c.args.place (let f = c.ranges.word.fits in omega (arith, f))
    (omega (arith, c.if-place-lt64.false)) in omega (arith, z, h))
