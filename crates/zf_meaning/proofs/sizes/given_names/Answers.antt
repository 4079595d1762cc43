use Rattle.zf_term.specs.{globals_of}
use Rattle.zf_meaning.proofs.Counts.{given-more}
use Rattle.zf_meaning.proofs.sizes.given_names.Goals as goal

pub loop-place-preserved : goal.loop-place-preserved
loop-place-preserved c = given-more (globals_of c.args.globals.now) c.loop-place.place c.loop-place.sets.items c.add_name.new.sets.items c.loop-place.invariant c.in_ok-add_name.ensures
