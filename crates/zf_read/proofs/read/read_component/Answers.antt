use Rattle.zf_read.proofs.Misfits.{answered, made}
use Rattle.zf_read.proofs.ValuesAt.{unnamed, unequal, unvalued}
use Rattle.zf_read.proofs.read.read_component.Goals as goal

pub returns-then-not-stands-clause-refused : goal.returns-then-not-stands-clause-refused
returns-then-not-stands-clause-refused c = made c.unnamed.result (unnamed _ _ _ _ _ c.as_slice-name.ensures c.if-not-stands.ensures)

pub returns-then-not-stands-2-clause-refused : goal.returns-then-not-stands-2-clause-refused
returns-then-not-stands-2-clause-refused c = made c.unequal.result (unequal _ _ _ _ _ _ c.as_slice-name.ensures c.if-not-stands.ensures.stands c.if-not-stands-2.ensures)

pub returns-clause-refused : goal.returns-clause-refused
returns-clause-refused c =
    answered c.read_value.result (unvalued _ _ _ _ _ _ _ c.as_slice-name.ensures c.if-not-stands.ensures.stands c.if-not-stands-2.ensures.stands)
    c.read_value.ensures.refused
