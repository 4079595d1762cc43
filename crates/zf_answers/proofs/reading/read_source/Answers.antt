use Rattle.zf_answers.proofs.Prelude.{◌++◌, arith, length-append, take, Consumes-trans, length-take}
use Rattle.zf_answers.proofs.reading.read_source.Goals as goal

-- what was read last is not kept, and yet was given
pub returns-in_err-extend_from_slice-in-Ok-clause-bound : goal.returns-in_err-extend_from_slice-in-Ok-clause-bound
returns-in_err-extend_from_slice-in-Ok-clause-bound g c =
    let kept = c.loop-buffer.source.items in
    let (consumed, unfailed, within) = c.loop-buffer.invariant in (
      kept ++ take c.in-Ok.n c.read.new.buf,
      Consumes-trans _ _ _ _ _ consumed c.in-Ok.ensures.bytes.0,
      omega (arith, length-append kept (take c.in-Ok.n c.read.new.buf), length-take c.in-Ok.n c.read.new.buf, length-take c.min-most.result c.loop-buffer.buffer, c.in-Ok.ensures.bound),
    )
