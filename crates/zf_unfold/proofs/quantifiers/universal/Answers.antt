use Rattle.zf_unfold.proofs.Prelude.{◌∙◌, sym}
use Rattle.zf_unfold.proofs.Arms.{universal_seen}
use Rattle.zf_unfold.proofs.quantifiers.universal.Goals as goal

pub returns-clause-is : goal.returns-clause-is
returns-clause-is c =
    let q = c.in-Quantified in
    universal_seen q.span q.quantifier q.variables c.in-Some.first.now c.in-Some.others.now q.constraint q.body c.get.result.now c.args.term.now q.is
    (c.is_universal.ensures c.if-not-is_universal.false) (sym c.as_slice.ensures ∙ c.in-Some.ensures.cases.0) c.get.ensures
