use Rattle.zf_read.proofs.Prelude.{◌∙◌, ap, sym, first_named, found_number, environment_of}
use Rattle.zf_read.proofs.SpelledTypes.{typed_by, unnamed}
use Rattle.zf_read.proofs.elements.spelled_type.Goals as goal

pub returns-in-Some : goal.returns-in-Some
returns-in-Some c =
    let here = ap (λ g. found_number (first_named (λ d. d.name) c.args.name.now g)) c.globals.ensures in
    typed_by c.args.spellings.now (environment_of c.args.env.now) c.args.name.now c.in-Some.number c.sized_type.result (sym c.in-Some.is ∙ c.number_named.ensures ∙ here) c.sized_type.ensures

pub returns-in-None : goal.returns-in-None
returns-in-None c =
    let here = ap (λ g. found_number (first_named (λ d. d.name) c.args.name.now g)) c.globals.ensures in
    unnamed c.args.spellings.now (environment_of c.args.env.now) c.args.name.now (sym c.in-None.is ∙ c.number_named.ensures ∙ here)
