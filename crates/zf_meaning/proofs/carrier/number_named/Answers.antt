use Rattle.zf_meaning.proofs.Prelude.{refl, globals_of}
use Rattle.zf_term.proofs.Entries.{entry_found}
use Rattle.zf_meaning.proofs.CarrierLists.{named_number}
use Rattle.zf_meaning.proofs.carrier.number_named.Goals as goal

pub returns-in-Some : goal.returns-in-Some
returns-in-Some c = rw c.in-Some.is at (named_number (globals_of c.args.globals.now) c.args.name.now c.get.result
    (entry_found c.args.name.now c.args.globals.now.entries.entries c.get.result c.get.ensures.value)) _ c.number_of.ensures

pub returns-in-None : goal.returns-in-None
returns-in-None c = rw c.in-None.is at (named_number (globals_of c.args.globals.now) c.args.name.now c.get.result
    (entry_found c.args.name.now c.args.globals.now.entries.entries c.get.result c.get.ensures.value)) _ refl
