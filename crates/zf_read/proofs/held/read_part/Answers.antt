use Rattle.zf_read.proofs.HeldSoFar.{named_within, no_value_there, not_empty, not_named, not_separated, part_at}
use Rattle.zf_read.proofs.Misfits.{made, passed}
use Rattle.zf_read.proofs.held.read_part.Goals as goal

pub returns-in_err-start-clause-refused : goal.returns-in_err-start-clause-refused
returns-in_err-start-clause-refused c = passed c.in_err-start.field-0.0 c.from_residual.result c.from_residual.ensures.1
    (not_separated _ _ _ _ _ _ (not_empty c.args.line.now.text.now c.args.place c.requires.place)) c.in_err-start.ensures.refused

pub returns-in_default-clause-refused : goal.returns-in_default-clause-refused
returns-in_default-clause-refused c = made c.unnamed.result
    (not_named _ _ _ _ _ _ _ (not_empty c.args.line.now.text.now c.args.place c.requires.place) c.in_ok-start.ensures.read.stands c.in_default.ensures)

pub bounds-components-next : goal.bounds-components-next
bounds-components-next c = named_within c.args.components.now _ _ _ c.in-Some.ensures

pub returns-in_err-value-clause-refused : goal.returns-in_err-value-clause-refused
returns-in_err-value-clause-refused c = passed c.in_err-value.field-0.0 c.from_residual-in_err-value.result c.from_residual-in_err-value.ensures.1
    (no_value_there _ _ c.args.components.now c.args.count c.args.line.now.text.now c.args.place _ _ c.in-Some.next _ c.index-components-next.is
    (named_within c.args.components.now _ _ _ c.in-Some.ensures) c.requires.place c.in_ok-start.ensures.read c.in-Some.ensures) c.in_err-value.ensures.refused

pub returns-clause-read : goal.returns-clause-read
returns-clause-read c = part_at _ _ c.args.components.now c.args.count c.args.line.now.text.now c.args.place _ _ c.in-Some.next _ _ _ c.index-components-next.is
    (named_within c.args.components.now _ _ _ c.in-Some.ensures) c.requires.place c.in_ok-start.ensures.read c.in-Some.ensures c.in_ok-value.ensures.read
