use Rattle.zf_meaning.proofs.Prelude.{◌∙◌, subst, sym, resolved_of, Refutes}
use Rattle.zf_meaning.proofs.Early.{filter-refutes}
use Rattle.zf_meaning.proofs.evaluate.early.filter_of.Goals as goal

pub returns-in-Some-clause-refutes : goal.returns-in-Some-clause-refutes
returns-in-Some-clause-refutes c =
    let i = c.in-Comprehension in
    subst (λ x. Refutes (resolved_of x) (resolved_of c.args.term.now)) (sym c.get-in-Some.ensures)
    (filter-refutes c.args.term.now i.field-0 i.field-1 i.filter i.field-3 c.in-Some.part i.is (sym c.get.ensures ∙ c.in-Some.is))
