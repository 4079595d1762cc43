use Rattle.zf_term.proofs.MovedReferences as terms
use Rattle.zf_term.proofs.laws.moved_keeps_variables.Goals as goal

pub returns : goal.returns
returns c = record {
  moved = terms.moved_keeps_variables;
  numbered = terms.components_alone_numbered;
}
