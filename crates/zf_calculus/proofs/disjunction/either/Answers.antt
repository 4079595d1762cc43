use Rattle.zf_calculus.proofs.Prelude.{◌∙◌, map, comp_of}
use Rattle.zf_calculus.proofs.Disjoining.{either_seen}
use Rattle.zf_calculus.proofs.disjunction.either.Goals as goal

pub returns : goal.returns
returns c =
    either_seen c.args.component.now (map comp_of c.args.left.now) (map comp_of c.args.right.now) c.share-name.result c.in_ok-ztype.ztype
    c.in_ok-domains-2.domains c.in_ok-left.left c.in_ok-right.right c.share-name.ensures c.in_ok-ztype.ensures c.in_ok-left.ensures c.in_ok-right.ensures
    (c.in_ok-domains-2.ensures ∙ c.in_ok-domains.ensures)
