use Rattle.zf_enum.proofs.Equations.{name_seen}
use Rattle.zf_enum.proofs.fixing.is_component.Goals as goal

pub returns : goal.returns
returns c = λ u. let i = c.in-Name in name_seen c.args.term.now i.field-0 c.args.component i.reference i.is (c.is_named.ensures u)
