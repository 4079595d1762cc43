use Rattle.zf_schema.proofs.Prelude.{◌∙◌, arith, sym, paragraph_of, globals_of}
use Rattle.zf_schema.proofs.Numbering.{few_numbers, numbered_after}
use Rattle.zf_schema.proofs.paragraph.define.Goals as goal

pub add-defined-requires-clause-small : goal.add-defined-requires-clause-small
add-defined-requires-clause-small c = omega (arith, few_numbers (globals_of c.args.globals.now))

pub overflow_add-next : goal.overflow_add-next
overflow_add-next c = omega (arith, few_numbers (globals_of c.args.globals.now))

pub returns-else-is_err-clause-numbered : goal.returns-else-is_err-clause-numbered
returns-else-is_err-clause-numbered c =
    numbered_after c.add-defined.result (globals_of c.args.globals.now) (paragraph_of c.args.paragraph.now) (globals_of c.add-defined.new.globals) c.args.next.now c.elements.result
    (sym c.is_err.ensures.value ∙ c.if-is_err.false) c.add-defined.ensures.ok c.requires c.elements.ensures.number
