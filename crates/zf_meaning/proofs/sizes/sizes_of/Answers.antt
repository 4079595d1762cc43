use Rattle.zf_meaning.proofs.Prelude.{arith, globals_of}
use Rattle.zf_meaning.proofs.Counts.{count-more, count-all}
use Rattle.zf_meaning.proofs.sizes.sizes_of.Goals as goal

pub loop-place-preserved : goal.loop-place-preserved
loop-place-preserved c =
    let added = c.in_ok-add_count.ensures in
    count-more c.args.sizes.now (globals_of c.args.globals.now) c.loop-place.place added.0 c.loop-place.counts.items c.add_count.new.counts.items added.1 c.loop-place.invariant added.2

pub returns : goal.returns
returns c = count-all c.args.sizes.now (globals_of c.args.globals.now) c.loop-place.place c.loop-place.counts.items (omega (arith, c.len-place-end.ensures.len)) c.loop-place.invariant
