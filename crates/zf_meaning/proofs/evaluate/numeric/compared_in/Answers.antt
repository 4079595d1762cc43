use Rattle.zf_meaning.proofs.Prelude.{◌∙◌, ap, of-Chain, resolved_of, environment_of, in_row}
use Rattle.zf_meaning.proofs.Numeric.{chain-compared}
use Rattle.zf_meaning.proofs.evaluate.numeric.compared_in.Goals as goal

pub returns : goal.returns
returns g c =
    let i = c.in-Chain in
    chain-compared (in_row (environment_of c.args.env.now) (g.R.Row.values c.args.row.now))
    (resolved_of c.args.term.now) i.field-0 i.first c.get.result.now i.links c.as_slice.result.now c.compared.result
    (ap resolved_of i.is ∙ of-Chain i.field-0 i.first i.links) c.get.ensures c.as_slice.ensures (c.compared.ensures i.field-0)
