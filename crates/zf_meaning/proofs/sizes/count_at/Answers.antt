use Rattle.zf_meaning.proofs.Prelude.{◌∙◌, ap, Some, Defined, definition_of, globals_of}
use Rattle.zf_meaning.proofs.Counts.{count_given}
use Rattle.zf_meaning.proofs.sizes.count_at.Goals as goal

pub returns-in-Some-default-Given : goal.returns-in-Some-default-Given
returns-in-Some-default-Given c =
    let name = c.in-Some-default-Given.name.now in
    count_given c.args.sizes.now (globals_of c.args.globals.now) c.args.place c.in-Some-default-Given.field-0-1-0 name c.count_of.result
    (c.in-Some-default-Given.ensures ∙ ap (λ e. let d : Defined = record { name = name; definition = definition_of e } in Some d) c.in-Some-default-Given.field-0-1-is) c.requires c.count_of.ensures
