use Rattle.zf_calculus.proofs.Prelude.{◌∙◌, ap, List, map, refl, subst, comp_of, schema_of, Component, Flat, AreOnce}
use Rattle.zf_calculus.proofs.Taken.{taken_whole}
use Rattle.zf_calculus.proofs.growing.Growing.becomes.Goals as goal

pub returns : goal.returns
returns c apart =
    let once = subst (λ (cs : List Component). AreOnce (map comp_of cs)) (c.as_slice.ensures ∙ ap (λ (f : Flat). f.components) c.flat.ensures) (c.are_apart.ensures.0 apart) in
    taken_whole (schema_of c.args.self.now) (schema_of c.args.other.now) (c.if-not-is_nothing.ensures.0 refl) once
