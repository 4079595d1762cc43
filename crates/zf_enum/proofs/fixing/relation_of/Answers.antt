use Rattle.zf_enum.proofs.Prelude.{arith}
use Rattle.zf_enum.proofs.Equations.{relation_seen}
use Rattle.zf_enum.proofs.fixing.relation_of.Goals as goal

pub returns : goal.returns
returns c =
    let i = c.in-Chain in
    let k = c.link-item in (
      i.field-0,
      relation_seen c.args.term.now i.field-0 i.first c.get.result.now i.links c.as_slice.result.now k.result i.is c.as_slice.ensures c.get.ensures
          (omega (arith, c.in-len1.len_at_least)) (omega (arith, c.in-len1.len_below)) k.is,
    )
