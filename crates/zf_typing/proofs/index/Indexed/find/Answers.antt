use Rattle.zf_typing.proofs.Prelude.{◌∙◌, ap, map, subst, sym, IsIndexed, last_named, variable_of}
use Rattle.zf_typing.proofs.Indexed.{same_vars, vars}
use Rattle.zf_typing.proofs.index.Indexed.find.Goals as goal

pub found_along-requires : goal.found_along-requires
found_along-requires c =
    subst (λ cs. IsIndexed cs c.as_slice-2.result.now) (sym c.as_slice.ensures.value) (subst (λ hs. IsIndexed c.self.inside.chain.items hs) (sym c.as_slice-2.ensures.value) c.self.invariant)

pub returns-clause-last : goal.returns-clause-last
returns-clause-last c =
    c.found_along.ensures.last
    ∙ ap (λ vs. last_named (λ v. v.name) c.args.name.now vs) (ap vars c.as_slice.ensures.value ∙ same_vars c.self.inside.chain.items ∙ ap (map variable_of) c.self.view_is)
