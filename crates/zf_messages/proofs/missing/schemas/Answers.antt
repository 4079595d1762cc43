use Rattle.zf_term.specs.{globals_of}
use Rattle.zf_messages.proofs.Listing.{schemas-more}
use Rattle.zf_messages.proofs.missing.schemas.Goals as goal

pub loop-place-preserved : goal.loop-place-preserved
loop-place-preserved c =
    let g = globals_of c.args.globals.now in
    schemas-more g c.loop-place.place c.loop-place.names.items c.add_schema.new.names.items c.loop-place.invariant c.in_ok-add_schema.ensures
