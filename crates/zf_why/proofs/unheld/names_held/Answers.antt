use Rattle.zf_why.proofs.Prelude.{◌∙◌, ap, sym}
use Rattle.zf_shape.specs.{place_after}
use Rattle.zf_term.specs.{resolved_of}
use Rattle.zf_why.proofs.NamesHeld.{none_lacks, one_lacks}
use Rattle.zf_why.proofs.unheld.names_held.Goals as goal

pub returns-in-None : goal.returns-in-None
returns-in-None c = none_lacks c.args.held.now (resolved_of c.args.term.now) (ap place_after (sym c.in-None.is) ∙ c.last_of.ensures)

pub returns-in-Some : goal.returns-in-Some
returns-in-Some c = one_lacks c.args.held.now (resolved_of c.args.term.now) c.in-Some.field-0 (ap place_after (sym c.in-Some.is) ∙ c.last_of.ensures)
